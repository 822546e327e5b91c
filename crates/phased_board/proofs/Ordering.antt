-- Exports that were started stay.
use Rattle.std.proofs.Common.{◌≡◌, ◌≤◌, ℕ, zero, suc, Bool, true, false, inl, inr, Result, Ok, Err, List, []}
use Rattle.std.proofs.Common.{◌∷◌, ◌++◌, length, All, Some, slice_get, refl, sym, ap, ◌∙◌, arith, append-nil, append_assoc, length-append}
use Rattle.export_protocol.specs.Cluster.{World as Cluster}
use Rattle.export_protocol.specs.declared.event.Event.{Event}
use Rattle.export_protocol.specs.declared.event.Reply.{Reply}
use Rattle.export_protocol.specs.declared.event.Reply.TheVariants as reply
use Rattle.export_protocol.specs.declared.event.Event.TheVariants.{Abort, Ask, Begin, Deliver, End, Froze, Notify, Start, Stop}
use Rattle.export_protocol.specs.Step as machine
use Rattle.export_protocol.proofs.Frame.{delivered_frame}
use Rattle.mds_types.specs.declared.order.Order.{Order}
use Rattle.mds_board.specs.declared.change.Change.{Change}
use Rattle.mds_board.specs.declared.change.Change.TheVariants.{Deposit, Step}
use Rattle.mds_board.specs.declared.change.Answer.{Answer}
use Rattle.mds_board.specs.declared.change.Answer.TheVariants as answer
use Rattle.mds_board.specs.State.{State, after_event, happens, next}
use Rattle.mds_board.specs.declared.board_error.BoardError.{BoardError}
use Rattle.mds_board.proofs.Mapping.{after_step}
use Rattle.mds_board.specs.declared.entry.Entry.{Entry}
use Rattle.mds_board.specs.History.{World, IsAnswer, IsReplay, recorded}
use Rattle.phased_board.specs.Asked.{is_later}
use Rattle.phased_board.specs.Going.{IsOfKind, IsOfPhase, WentOnWithStops, added, is_of_requests}
use Rattle.phased_board.proofs.ByKind.{by_exports, by_stops, head_has, tail_have}

-- the order that a change starts
abbrev pub started_by : Change → List Order
started_by (Step (Start from to dirs)) = record { from = from; to = to; dirs = dirs } ∷ []
started_by _ = []

event_orders : (w : Cluster) (n : ℕ) (e : Event) → IsOfPhase n (Step e) → (after_event w e).orders ≡ w.orders ++ started_by (Step e)
unfolding machine.happens
event_orders w n (Start from to dirs) h = refl
event_orders w n (Deliver m) h = (delivered_frame w (slice_get w.sent m)).orders ∙ sym (append-nil w.orders)
event_orders w n (Froze x) h = sym (append-nil w.orders)
event_orders w n (Notify x) h = sym (append-nil w.orders)
event_orders w n (Abort x) h = sym (append-nil w.orders)
event_orders w n (Ask x) h = sym (append-nil w.orders)
event_orders w n _ h = absurd h

request_orders : (s : State) (c : Change) → is_of_requests c ≡ true → (next s c).cluster.orders ≡ s.cluster.orders ++ started_by c
unfolding happens machine.happens
request_orders s (Step (Begin r d)) is = sym (append-nil s.cluster.orders)
request_orders s (Step (End t)) is = sym (append-nil s.cluster.orders)
request_orders s (Deposit hits) is = sym (append-nil s.cluster.orders)
request_orders s _ is = absurd (cc)

stop_orders : (w : Cluster) (rank : ℕ) → (after_event w (Stop rank)).orders ≡ w.orders ++ started_by (Step (Stop rank))
unfolding machine.happens
stop_orders w rank = sym (append-nil w.orders)

kind_orders : (r x : Bool) (stops : List ℕ) (n : ℕ) (s : State) (c : Change) → IsOfKind r x stops n c
    → (next s c).cluster.orders ≡ s.cluster.orders ++ started_by c
kind_orders r x stops n s c (inl h) = request_orders s c h.1
kind_orders r x stops n s c (inr (inl h)) =
    by_exports (λ (c : Change). (next s c).cluster.orders ≡ s.cluster.orders ++ started_by c) n
    (λ e inner is. ap (λ (t : State). t.cluster.orders) (after_step s e inner) ∙ event_orders s.cluster n e is) c h.1
kind_orders r x stops n s c (inr (inr h)) =
    by_stops (λ (c : Change). (next s c).cluster.orders ≡ s.cluster.orders ++ started_by c) stops
    (λ rank is. ap (λ (t : State). t.cluster.orders) (after_step s (Stop rank) refl) ∙ stop_orders s.cluster rank) c h

replay_orders : (r x : Bool) (stops : List ℕ) (n : ℕ) (s : State) (es : List Entry) (t : State)
    → All (λ (e : Entry). IsOfKind r x stops n e.change) es → IsReplay s es t
    → (more : List Order) × (t.cluster.orders ≡ s.cluster.orders ++ more)
replay_orders r x stops n s [] t kinds h = ([], ap (λ (u : State). u.cluster.orders) h ∙ sym (append-nil s.cluster.orders))
replay_orders r x stops n s (e ∷ es) t kinds h =
    let first = kind_orders r x stops n s e.change (head_has (λ (it : Entry). IsOfKind r x stops n it.change) e es kinds) in
    let rest = replay_orders r x stops n (next s e.change) es t (tail_have (λ (it : Entry). IsOfKind r x stops n it.change) e es kinds) h.3 in
    (started_by e.change ++ rest.0, rest.1 ∙ (ap (λ os. os ++ rest.0) first ∙ append_assoc s.cluster.orders (started_by e.change) rest.0))

-- where a board goes on, the exports so far are the first
pub orders_stay : (r x : Bool) (stops : List ℕ) (old new : World) → WentOnWithStops r x stops old new
    → (more : List Order) × (new.state.cluster.orders ≡ old.state.cluster.orders ++ more)
orders_stay r x stops old new h = replay_orders r x stops (length old.state.cluster.orders) old.state (added old new) new.state h.alone h.replay

pub get_first : {A : Type 0} (xs ys : List A) (k : ℕ) (a : A) → slice_get xs k ≡ Some a → slice_get (xs ++ ys) k ≡ Some a
get_first [] ys k a h = absurd (cc)
get_first (x ∷ xs) ys zero a h = h
get_first (x ∷ xs) ys (suc k) a h = get_first xs ys k a h

pub get_last : {A : Type 0} (xs : List A) (a : A) → slice_get (xs ++ a ∷ []) (length xs) ≡ Some a
get_last [] a = refl
get_last (x ∷ xs) a = get_last xs a

pub no_fewer : (r x : Bool) (stops : List ℕ) (old new : World) → WentOnWithStops r x stops old new
    → length old.state.cluster.orders ≤ length new.state.cluster.orders
no_fewer r x stops old new h =
    let more = orders_stay r x stops old new h in
    let e = ap (λ (os : List Order). length os) more.1 ∙ length-append old.state.cluster.orders more.0 in omega arith

-- a start that was accepted

pub start_reply : (s : State) (from to : ℕ) (dirs : List ℕ) (r : Reply) → answer.Reply r ≡ (happens s (Step (Start from to dirs))).reply
    → r ≡ reply.Export (length s.cluster.orders) (length s.cluster.sent)
unfolding happens machine.happens
start_reply s from to dirs r h = cc

pub start_orders : (old new : World) (order : Order) → new ≡ recorded old (Step (Start order.from order.to order.dirs))
    → new.state.cluster.orders ≡ old.state.cluster.orders ++ order ∷ []
start_orders old new order h =
    ap (λ (w : World). w.state.cluster.orders) h ∙ kind_orders false true [] 0 old.state (Step (Start order.from order.to order.dirs)) (inr (inl (refl, tt)))

-- no export is started

pub none_by : (e : Event) → is_later e ≡ true → started_by (Step e) ≡ []
none_by (Start from to dirs) h = absurd (cc)
none_by _ h = refl

pub none_started : (r x : Bool) (stops : List ℕ) (n : ℕ) (old new : World) (c : Change) (reply : Result Answer BoardError)
    → IsOfKind r x stops n c → started_by c ≡ [] → IsAnswer old c reply new
    → new.state.cluster.orders ≡ old.state.cluster.orders
none_started r x stops n old new c (Ok reply) is none h =
    ap (λ (w : World). w.state.cluster.orders) h.3
    ∙ (kind_orders r x stops n old.state c is ∙ (ap (λ os. old.state.cluster.orders ++ os) none ∙ append-nil old.state.cluster.orders))
none_started r x stops n old new c (Err error) is none h = ap (λ (w : World). w.state.cluster.orders) h.1
