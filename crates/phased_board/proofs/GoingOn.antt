-- The board of a phase goes on, with its standings and tickets.
use Rattle.std.proofs.Common.{◌≡◌, ◌≤◌, ◌+◌, ℕ, Bool, MatchBool, true, false, inl, inr, List, [], ◌∷◌, length}
use Rattle.std.proofs.Common.{All, Result, Ok, Err, Option, Some, refl, sym, ap, ◌∙◌, arith, append-nil, length-append}
use Rattle.std.specs.List.{count_by}
use Rattle.export_protocol.specs.Cluster.{World as Cluster}
use Rattle.export_protocol.specs.declared.event.Request.{Request}
use Rattle.mds_board.specs.declared.board_error.BoardError.{BoardError}
use Rattle.mds_board.specs.declared.change.Answer.{Answer}
use Rattle.mds_board.specs.declared.change.Change.{Change}
use Rattle.mds_board.specs.State.{State, next}
use Rattle.phased_board.specs.Asked.{AreAsked, is_begun}
use Rattle.phased_board.specs.Going.{IsOfKind, WentOnBy, added, is_of_requests}
use Rattle.phased_board.specs.declared.standing.Standing.{Standing}
use Rattle.phased_board.proofs.Asking.{Grows, all_grow}
use Rattle.phased_board.proofs.Going.{answered, joins, longer, map_published, publish_kept, publish_same, wider}
use Rattle.phased_board.proofs.ByKind.{head_has, none_named, tail_have}
use Rattle.phased_board.proofs.Requests.{by_requests}
use Rattle.phased_board.proofs.Ordering.{none_started, started_by}
use Rattle.mds_board.specs.declared.entry.Entry.{Entry}
use Rattle.mds_board.specs.History.{World, IsAnswer, IsReplay}
use Rattle.mds_types.specs.declared.order.Order.{Order}
use Rattle.phased_board.specs.OnTheWay.{IsOnTheWay}
use Rattle.phased_board.proofs.Ended.{as_long, begin_tickets, deposit_tickets, next_tickets, phase_tickets, stop_tickets}

-- Tickets.

request_tickets : (s : State) (c : Change) → is_of_requests c ≡ true → length s.cluster.tickets ≤ length (next s c).cluster.tickets
request_tickets s =
    by_requests (λ (c : Change). length s.cluster.tickets ≤ length (next s c).cluster.tickets)
    (λ r d. (let long = ap (λ (ts : List (Option Request)). length ts) (begin_tickets s r d)
    ∙ length-append s.cluster.tickets (Some (record { rank = r; dir = d }) ∷ []) in omega arith))
    (λ t. (let long = ap (λ (ts : List (Option Request)). length ts) (next_tickets s t) ∙ as_long s.cluster.tickets t in omega arith))
    (λ hits. (let long = ap (λ (ts : List (Option Request)). length ts) (deposit_tickets s hits) in omega arith))

kind_tickets : (r x : Bool) (stops : List ℕ) (n : ℕ) (s : State) (c : Change) → IsOfKind r x stops n c
    → length s.cluster.tickets ≤ length (next s c).cluster.tickets
kind_tickets r x stops n s c (inl is) = request_tickets s c is.1
kind_tickets r x stops n s c (inr (inl is)) = let long = ap (λ (ts : List (Option Request)). length ts) (phase_tickets s n c is.1) in omega arith
kind_tickets r x stops n s c (inr (inr is)) = let long = stop_tickets s stops c is in omega arith

replay_tickets : (r x : Bool) (stops : List ℕ) (n : ℕ) (s : State) (es : List Entry) (t : State)
    → All (λ (e : Entry). IsOfKind r x stops n e.change) es → IsReplay s es t
    → length s.cluster.tickets ≤ length t.cluster.tickets
replay_tickets r x stops n s [] t kinds h = let same = ap (λ (u : State). length u.cluster.tickets) h in omega arith
replay_tickets r x stops n s (e ∷ es) t kinds h =
    let first = kind_tickets r x stops n s e.change (head_has (λ (it : Entry). IsOfKind r x stops n it.change) e es kinds) in
    let rest = replay_tickets r x stops n (next s e.change) es t (tail_have (λ (it : Entry). IsOfKind r x stops n it.change) e es kinds) h.3 in omega arith

answer_tickets : (r x : Bool) (stops : List ℕ) (n : ℕ) (old new : World) (c : Change) (reply : Result Answer BoardError)
    → IsOfKind r x stops n c → IsAnswer old c reply new
    → length old.state.cluster.tickets ≤ length new.state.cluster.tickets
answer_tickets r x stops n old new c (Ok reply) is a =
    let same = ap (λ (w : World). length w.state.cluster.tickets) a.3 in
    let more = kind_tickets r x stops n old.state c is in omega arith
answer_tickets r x stops n old new c (Err error) is a = let same = ap (λ (w : World). length w.state.cluster.tickets) a.1 in omega arith

-- an answered change that starts no export
pub answers_on : (r x : Bool) (stops : List ℕ) (first : World) (orders : List Order) (old : World) (standings : List Standing) (given : ℕ)
    (c : Change) (reply : Result Answer BoardError) (new : World)
    → IsOnTheWay r x stops first orders old standings given → IsOfKind r x stops (length first.state.cluster.orders) c → started_by c ≡ []
    → IsAnswer old c reply new
    → IsOnTheWay r x stops first orders new standings given
answers_on r x stops first orders old standings given c reply new h is none a =
    let same = none_started r x stops (length first.state.cluster.orders) old new c reply is none a in
    let more = answer_tickets r x stops (length first.state.cluster.orders) old new c reply is a in
    let grows : Grows old new = record { history = longer old new c reply a; more = []; orders = same ∙ sym (append-nil old.state.cluster.orders) } in record {
      went = answered r x stops first old new c reply h.went is a;
      asked = all_grow first old new orders standings grows h.asked;
      counted = ap (λ (os : List Order). length os) same ∙ h.counted;
      given = let before = h.given in omega arith;
    }

none_requested : (c : Change) → is_of_requests c ≡ true → started_by c ≡ []
none_requested = by_requests (λ (c : Change). started_by c ≡ []) (λ r d. refl) (λ t. refl) (λ hits. refl)

-- an answered request, end or deposit
pub requests_on : (r x : Bool) (stops : List ℕ) (first : World) (orders : List Order) (old : World) (standings : List Standing) (given : ℕ)
    (c : Change) (reply : Result Answer BoardError) (new : World)
    → r ≡ true → IsOnTheWay r x stops first orders old standings given → is_of_requests c ≡ true → IsAnswer old c reply new
    → IsOnTheWay r x stops first orders new standings given
requests_on r x stops first orders old standings given c reply new requests h is a =
    answers_on r x stops first orders old standings given c reply new h (inl (requests, is)) (none_requested c is) a

-- an order is settled
pub settles_on : (r x : Bool) (stops : List ℕ) (first : World) (orders : List Order) (old new : World) (standings after : List Standing) (given : ℕ) → x ≡ true
    → IsOnTheWay r x stops first orders old standings given → WentOnBy false true old new → AreAsked first new orders after
    → length new.state.cluster.orders + count_by is_begun standings ≡ length old.state.cluster.orders + count_by is_begun after
    → IsOnTheWay r x stops first orders new after given
settles_on r x stops first orders old new standings after given exports h by asked counted =
    let more = replay_tickets false true [] (length old.state.cluster.orders) old.state (added old new) new.state by.alone by.replay in record {
      went = joins r x stops first old new h.went
          (wider false true r x [] stops old new (λ no. absurd (cc)) (λ is. exports) (λ rank none. absurd (none_named rank none)) by);
      asked = asked;
      counted = let e = h.counted in omega arith;
      given = let before = h.given in omega arith;
    }

-- the map is published, or memory was refused
pub publishes_on : (r x done : Bool) (stops : List ℕ) (first : World) (orders : List Order) (old new : World) (standings : List Standing) (given : ℕ) → x ≡ true
    → IsOnTheWay r x stops first orders old standings given → MatchBool done (new ≡ record old { published = old.state.map }) (new ≡ old)
    → IsOnTheWay r x stops first orders new standings given
publishes_on r x done stops first orders old new standings given exports h is =
    let same = publish_same done old new is in
    let exports_same : new.state.cluster.orders ≡ old.state.cluster.orders = ap (λ (w : Cluster). w.orders) same in
    let grows : Grows old new = record {
      history = ([], append-nil old.history ∙ sym (publish_kept done old new is));
      more = [];
      orders = exports_same ∙ sym (append-nil old.state.cluster.orders);
    } in record {
      went = map_published r x done stops first old new exports h.went is;
      asked = all_grow first old new orders standings grows h.asked;
      counted = ap (λ (os : List Order). length os) exports_same ∙ h.counted;
      given = let kept = ap (λ (w : Cluster). length w.tickets) same in let before = h.given in omega arith;
    }
