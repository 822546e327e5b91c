-- What the end of a request makes of the tickets, and why it is refused.
use Rattle.std.proofs.Common.{◌≡◌, ◌≢◌, ◌≤◌, ◌<◌, ℕ, zero, suc, ◌+◌, Bool, true, false, List, [], ◌∷◌, ◌++◌, length, drop, slice_get}
use Rattle.std.proofs.Common.{Option, Some, None, Result, Ok, Err, refl, sym, ap, ◌∙◌, subst, inl, inr, ◌⊎◌, arith, append-nil, length-append}
use Rattle.std.specs.Prelude.{is_some, nat_le, not, slice_index_or, slice_set}
use Rattle.std.specs.List.{All}
use Rattle.export_protocol.specs.Authority.{request_of}
use Rattle.export_protocol.specs.Cluster as cluster
use Rattle.export_protocol.specs.Step as machine
use Rattle.export_protocol.specs.Step.{map_at}
use Rattle.export_protocol.specs.declared.event.Event.{Event}
use Rattle.export_protocol.proofs.Frame.{delivered_frame}
use Rattle.heat_ledger.specs.declared.dir_hits.DirHits.{DirHits}
use Rattle.mds_board.proofs.Mapping.{after_step}
use Rattle.export_protocol.specs.declared.event.Event.TheVariants.{Abort, Ask, Begin, Deliver, End, Froze, Notify, Start, Stop}
use Rattle.export_protocol.specs.declared.event.Reply.TheVariants.{Ticket}
use Rattle.export_protocol.specs.declared.event.Request.{Request}
use Rattle.export_protocol.specs.declared.step_error.StepError.{StepError}
use Rattle.export_protocol.specs.declared.step_error.StepError.TheVariants.{HistoryFull, NoTicket}
use Rattle.mds_board.specs.declared.board_error.BoardError.{BoardError}
use Rattle.mds_board.specs.declared.board_error.BoardError.TheVariants as error
use Rattle.mds_board.specs.declared.change.Answer.{Answer}
use Rattle.mds_board.specs.declared.change.Answer.TheVariants as answer
use Rattle.mds_board.specs.declared.change.Change.{Change}
use Rattle.mds_board.specs.declared.change.Change.TheVariants.{Deposit, Step}
use Rattle.mds_board.specs.State as state
use Rattle.mds_board.specs.State.{State}
use Rattle.mds_board.specs.Steps.{IsDue}
use Rattle.phased_board.specs.Going.{IsOfKind, IsOfPhase, IsOfStops, WentOnWithStops, added, is_of_requests}
use Rattle.phased_board.proofs.ByKind.{by_exports, by_stops, head_has, tail_have}
use Rattle.phased_board.proofs.Requests.{by_requests}
use Rattle.mds_board.specs.declared.entry.Entry.{Entry}
use Rattle.mds_board.specs.History.{World, IsAnswer, IsReplay, entry_of}
use Rattle.phased_board.specs.Begun.{IsEndMet}

-- the first cause is that no request has the ticket
of_causes : (full : Bool) (request : Option Request)
    → machine.first (machine.when full HistoryFull ∷ machine.when (not (is_some request)) NoTicket ∷ []) ≡ Some NoTicket → request ≡ None
of_causes true request h = cc
of_causes false None h = refl
of_causes false (Some q) h = cc

pub no_ticket : (w : cluster.World) (ticket : ℕ) → machine.refusal w (End ticket) ≡ Some NoTicket → request_of w ticket ≡ None
unfolding machine.refusal machine.causes
no_ticket w ticket h = of_causes (nat_le machine.history_limit w.events) (request_of w ticket) h

taken : (tickets : List (Option Request)) (t : ℕ) → slice_index_or (slice_set tickets t None) t None ≡ None
taken [] t = refl
taken (x ∷ tickets) zero = refl
taken (x ∷ tickets) (suc t) = taken tickets t

stays_taken : (tickets : List (Option Request)) (t other : ℕ) → slice_index_or tickets other None ≡ None
    → slice_index_or (slice_set tickets t None) other None ≡ None
stays_taken [] t other h = h
stays_taken (x ∷ tickets) zero zero h = refl
stays_taken (x ∷ tickets) zero (suc other) h = h
stays_taken (x ∷ tickets) (suc t) zero h = h
stays_taken (x ∷ tickets) (suc t) (suc other) h = stays_taken tickets t other h

pub next_tickets : (s : State) (t : ℕ) → (state.next s (Step (End t))).cluster.tickets ≡ slice_set s.cluster.tickets t None
unfolding state.happens machine.happens
next_tickets s t = refl

-- a request that ended has no ticket
pub has_ended : (old new : World) (t : ℕ) (reply : Answer) → IsAnswer old (Step (End t)) (Ok reply) new → request_of new.state.cluster t ≡ None
has_ended old new t reply a =
    ap (λ (w : World). request_of w.state.cluster t) a.3
    ∙ (ap (λ (ts : List (Option Request)). slice_index_or ts t None) (next_tickets old.state t) ∙ taken old.state.cluster.tickets t)

-- one that ended before is not begun again
pub others_ended : (old new : World) (t : ℕ) (reply : Answer) → IsAnswer old (Step (End t)) (Ok reply) new → (other : ℕ)
    → request_of old.state.cluster other ≡ None → request_of new.state.cluster other ≡ None
others_ended old new t reply a other h =
    ap (λ (w : World). request_of w.state.cluster other) a.3
    ∙ (ap (λ (ts : List (Option Request)). slice_index_or ts other None) (next_tickets old.state t) ∙ stays_taken old.state.cluster.tickets t other h)

of_state : (full : Bool) (cause : Option StepError) (e : BoardError)
    → state.or_cause (state.when full error.HistoryFull) (state.of_step cause) ≡ Some e → (cause ≡ Some NoTicket → ⊥)
    → e ≢ error.Step NoTicket
of_state true cause e h other is = cc
of_state false None e h other is = cc
of_state false (Some x) e h other is = let same : x ≡ NoTicket = cc in other (ap (λ (y : StepError). Some y) same)

memory_apart : (e : BoardError) → e ≡ error.Memory → e ≢ error.Step NoTicket
memory_apart e memory is = cc

-- an end whose request still runs is refused for another cause
pub other_cause : (s : State) (t : ℕ) (e : BoardError) → IsDue s (Step (End t)) e → (machine.refusal s.cluster (End t) ≡ Some NoTicket → ⊥)
    → e ≢ error.Step NoTicket
unfolding state.refusal
other_cause s t e (inl cause) other = of_state (nat_le state.event_limit s.events) (machine.refusal s.cluster (End t)) e cause other
other_cause s t e (inr (none, inl memory)) other = memory_apart e memory
other_cause s t e (inr (none, inr best)) other = absurd best.1

-- the history goes on
pub history_ended : (old new : World) (t : ℕ) (reply : Answer) → IsAnswer old (Step (End t)) (Ok reply) new
    → (more : List Entry) × (new.history ≡ old.history ++ more)
history_ended old new t reply a = (entry_of old.state (Step (End t)) ∷ [], ap (λ (w : World). w.history) a.3)

pub history_refused : (old new : World) (t : ℕ) (error : BoardError) → IsAnswer old (Step (End t)) (Err error) new
    → (more : List Entry) × (new.history ≡ old.history ++ more)
history_refused old new t error a = ([], ap (λ (w : World). w.history) a.1 ∙ sym (append-nil old.history))

-- an entry's request, if it began one, runs no more
abbrev pub IsOver : World → Entry → Type 0
IsOver now entry = (ticket : ℕ) → entry.reply ≡ answer.Reply (Ticket ticket) → request_of now.state.cluster ticket ≡ None

-- numbers

at_or_below : (n t : ℕ) → n ≤ t → (n + 1 ≤ t) ⊎ (t ≡ n)
at_or_below zero zero h = inr refl
at_or_below zero (suc t) h = inl (omega arith)
at_or_below (suc n) zero h = absurd (omega arith)
at_or_below (suc n) (suc t) h = elim (at_or_below n t (omega arith)) [ inl less ↦ inl (omega arith) | inr same ↦ inr (ap suc same) ]

inside_or_past : (n t : ℕ) → (t < n) ⊎ (n ≤ t)
inside_or_past zero t = inr (omega arith)
inside_or_past (suc n) zero = inl (omega arith)
inside_or_past (suc n) (suc t) = elim (inside_or_past n t) [ inl less ↦ inl (omega arith) | inr more ↦ inr (omega arith) ]

-- lists

past : (tickets : List (Option Request)) (t : ℕ) → length tickets ≤ t → slice_index_or tickets t None ≡ None
past [] t h = refl
past (x ∷ tickets) zero h = absurd (omega arith)
past (x ∷ tickets) (suc t) h = past tickets t (omega arith)

pub as_long : (tickets : List (Option Request)) (t : ℕ) → length (slice_set tickets t None) ≡ length tickets
as_long [] t = refl
as_long (x ∷ tickets) zero = refl
as_long (x ∷ tickets) (suc t) = ap suc (as_long tickets t)

kept_at : (xs ys : List Entry) (k : ℕ) (e : Entry) → slice_get xs k ≡ Some e → slice_get (xs ++ ys) k ≡ Some e
kept_at [] ys k e h = absurd (cc)
kept_at (x ∷ xs) ys zero e h = h
kept_at (x ∷ xs) ys (suc k) e h = kept_at xs ys k e h

from_drop : (xs : List Entry) (n k : ℕ) (e : Entry) → slice_get (drop n xs) k ≡ Some e → slice_get xs (n + k) ≡ Some e
from_drop xs zero k e h = let same : k ≡ 0 + k = omega arith in subst (λ (j : ℕ). slice_get xs j ≡ Some e) same h
from_drop [] (suc n) k e h = absurd (cc)
from_drop (x ∷ xs) (suc n) k e h = let same : suc (n + k) ≡ suc n + k = omega arith in
    subst (λ (j : ℕ). slice_get (x ∷ xs) j ≡ Some e) same (from_drop xs n k e h)

-- tickets

pub begin_tickets : (s : State) (r d : ℕ) → (state.next s (Step (Begin r d))).cluster.tickets ≡ s.cluster.tickets ++ Some (record { rank = r; dir = d }) ∷ []
unfolding state.happens machine.happens
begin_tickets s r d = refl

pub begin_reply : (s : State) (r d : ℕ) → (state.happens s (Step (Begin r d))).reply ≡ answer.Reply (Ticket (length s.cluster.tickets))
unfolding state.happens machine.happens
begin_reply s r d = refl

pub deposit_tickets : (s : State) (hits : List DirHits) → (state.next s (Deposit hits)).cluster.tickets ≡ s.cluster.tickets
unfolding state.happens
deposit_tickets s hits = refl

event_tickets : (w : cluster.World) (n : ℕ) (e : Event) → IsOfPhase n (Step e) → (state.after_event w e).tickets ≡ w.tickets
unfolding machine.happens
event_tickets w n (Start from to dirs) h = refl
event_tickets w n (Deliver m) h = (delivered_frame w (slice_get w.sent m)).tickets
event_tickets w n (Froze x) h = refl
event_tickets w n (Notify x) h = refl
event_tickets w n (Abort x) h = refl
event_tickets w n (Ask x) h = refl
event_tickets w n _ h = absurd h

pub phase_tickets : (s : State) (n : ℕ) (c : Change) → IsOfPhase n c → (state.next s c).cluster.tickets ≡ s.cluster.tickets
phase_tickets s n =
    by_exports (λ (c : Change). (state.next s c).cluster.tickets ≡ s.cluster.tickets) n
    (λ e inner is. ap (λ (t : State). t.cluster.tickets) (after_step s e inner) ∙ event_tickets s.cluster n e is)

-- a stop ends requests, and takes no ticket away
map_long : (f : ℕ → Option Request → Option Request) (ts : List (Option Request)) → length (map_at f ts) ≡ length ts
map_long f [] = refl
map_long f (t ∷ ts) = ap suc (map_long (λ k. f (suc k)) ts)

stopped_tickets : (w : cluster.World) (rank : ℕ) → (state.after_event w (Stop rank)).tickets ≡ map_at (λ t request. machine.ends_at rank request) w.tickets
unfolding machine.happens
stopped_tickets w rank = refl

pub stop_tickets : (s : State) (stops : List ℕ) (c : Change) → IsOfStops stops c → length (state.next s c).cluster.tickets ≡ length s.cluster.tickets
stop_tickets s stops =
    by_stops (λ (c : Change). length (state.next s c).cluster.tickets ≡ length s.cluster.tickets) stops
    (λ rank is.
    ap (λ (t : State). length t.cluster.tickets) (after_step s (Stop rank) refl)
    ∙ (ap (λ (ts : List (Option Request)). length ts) (stopped_tickets s.cluster rank)
    ∙ map_long (λ t request. machine.ends_at rank request) s.cluster.tickets))

-- a ticket from here on is given later, or its request is over
one_over : (now : World) (s : State) (told : Answer)
    → ((t : ℕ) → told ≡ answer.Reply (Ticket t) → request_of now.state.cluster t ≡ None) → (t : ℕ) → length s.cluster.tickets ≤ t
    → (c : Change) → is_of_requests c ≡ true → told ≡ (state.happens s c).reply
    → (length (state.next s c).cluster.tickets ≤ t) ⊎ (request_of now.state.cluster t ≡ None)
one_over now s told over t low =
    by_requests (λ (c : Change). (told ≡ (state.happens s c).reply → (length (state.next s c).cluster.tickets ≤ t) ⊎ (request_of now.state.cluster t ≡ None)))
    begins
    (λ ticket reply. (let long = ap (λ (ts : List (Option Request)). length ts) (next_tickets s ticket)
    ∙ as_long s.cluster.tickets ticket in inl (omega arith)))
    (λ hits reply. (let long = ap (λ (ts : List (Option Request)). length ts) (deposit_tickets s hits) in inl (omega arith)))
  where
    begins : (r d : ℕ) → told ≡ (state.happens s (Step (Begin r d))).reply
        → (length (state.next s (Step (Begin r d))).cluster.tickets ≤ t) ⊎ (request_of now.state.cluster t ≡ None)
    begins r d reply =
        let long = ap (λ (ts : List (Option Request)). length ts) (begin_tickets s r d)
        ∙ length-append s.cluster.tickets (Some (record { rank = r; dir = d }) ∷ []) in
        elim (at_or_below (length s.cluster.tickets) t low) [
          | inl less ↦ inl (omega arith)
          | inr same ↦ inr (over t (reply ∙ (begin_reply s r d ∙ ap (λ (n : ℕ). answer.Reply (Ticket n)) (sym same))))
        ]

kind_over : (r x : Bool) (stops : List ℕ) (n : ℕ) (now : World) (s : State) (c : Change) (told : Answer) → IsOfKind r x stops n c
    → told ≡ (state.happens s c).reply
    → ((t : ℕ) → told ≡ answer.Reply (Ticket t) → request_of now.state.cluster t ≡ None) → (t : ℕ) → length s.cluster.tickets ≤ t
    → (length (state.next s c).cluster.tickets ≤ t) ⊎ (request_of now.state.cluster t ≡ None)
kind_over r x stops n now s c told (inl is) reply over t low = one_over now s told over t low c is.1 reply
kind_over r x stops n now s c told (inr (inl is)) reply over t low = let same =
    ap (λ (ts : List (Option Request)). length ts) (phase_tickets s n c is.1) in inl (omega arith)
kind_over r x stops n now s c told (inr (inr is)) reply over t low = let same = stop_tickets s stops c is in inl (omega arith)

-- the requests that began by these entries are over
all_over : (r x : Bool) (stops : List ℕ) (n : ℕ) (now : World) (s : State) (es : List Entry) (u : State)
    → All (λ (e : Entry). IsOfKind r x stops n e.change) es → IsReplay s es u
    → ((k : ℕ) (e : Entry) → slice_get es k ≡ Some e → IsOver now e) → (t : ℕ) → length s.cluster.tickets ≤ t → t < length u.cluster.tickets
    → request_of now.state.cluster t ≡ None
all_over r x stops n now s [] u alone replay over t low high = let same = ap (λ (v : State). length v.cluster.tickets) replay in absurd (omega arith)
all_over r x stops n now s (e ∷ es) u alone replay over t low high =
    elim (kind_over r x stops n now s e.change e.reply (head_has (λ (it : Entry). IsOfKind r x stops n it.change) e es alone) replay.2 (over 0 e refl) t low) [
      | inl later ↦ all_over r x stops n now (state.next s e.change) es u
          (tail_have (λ (it : Entry). IsOfKind r x stops n it.change) e es alone) replay.3 (λ k. over (suc k)) t later high
      | inr gone ↦ gone
    ]

-- no request runs that began since
pub none_runs : (r x : Bool) (stops : List ℕ) (before mid now : World) → WentOnWithStops r x stops before mid
    → ((k : ℕ) (e : Entry) → length before.history ≤ k → k < length mid.history → slice_get mid.history k ≡ Some e → IsOver now e)
    → ((t : ℕ) → request_of mid.state.cluster t ≡ None → request_of now.state.cluster t ≡ None) → (t : ℕ) → length before.state.cluster.tickets ≤ t
    → request_of now.state.cluster t ≡ None
none_runs r x stops before mid now went over stays t low =
    elim (inside_or_past (length mid.state.cluster.tickets) t) [
      | inl inside ↦ all_over r x stops (length before.state.cluster.orders) now before.state (added before mid) mid.state went.alone went.replay
          (λ k e is. (let found = from_drop mid.history (length before.history) k e is in
          over (length before.history + k) e (omega arith) (inside_of mid.history (length before.history + k) e found) found))
          t low inside
      | inr beyond ↦ stays t (past mid.state.cluster.tickets t beyond)
    ]
  where
    inside_of : (xs : List Entry) (k : ℕ) (e : Entry) → slice_get xs k ≡ Some e → k < length xs
    inside_of [] k e h = absurd (cc)
    inside_of (x ∷ xs) zero e h = omega arith
    inside_of (x ∷ xs) (suc k) e h = let rest = inside_of xs k e h in omega arith

-- one entry more is over
pub over_more : (initial old new : World) (first number : ℕ) (found : Option ℕ) (more : List Entry) → old.history ≡ initial.history ++ more
    → ((t : ℕ) (e : Entry) → slice_get old.history number ≡ Some e → e.reply ≡ answer.Reply (Ticket t) → found ≡ Some t)
    → ((t : ℕ) → found ≡ Some t → request_of new.state.cluster t ≡ None)
    → ((t : ℕ) → request_of old.state.cluster t ≡ None → request_of new.state.cluster t ≡ None)
    → ((k : ℕ) (e : Entry) → first ≤ k → k < number → slice_get initial.history k ≡ Some e → IsOver old e)
    → (k : ℕ) (e : Entry) → first ≤ k → k < number + 1 → slice_get initial.history k ≡ Some e → IsOver new e
over_more initial old new first number found more grown told ended stays over k e low high is t reply =
    let near : k ≤ number = omega arith in
    elim (at_or_below k number near) [
      | inl less ↦ let inside : k < number = omega arith in stays t (over k e low inside is t reply)
      | inr same ↦
          let there : slice_get initial.history number ≡ Some e = subst (λ (j : ℕ). slice_get initial.history j ≡ Some e) (sym same) is in
          let now : slice_get old.history number ≡ Some e = subst (λ (h : List Entry). slice_get h number ≡ Some e) (sym grown)
          (kept_at initial.history more number e there) in
          ended t (told t e now reply)
    ]

-- of two tellings, one is handed on
pub either_met : (before : World) (log : List Entry) (first second told : Result Unit BoardError) → (told ≡ first) ⊎ (told ≡ second)
    → IsEndMet before log first → IsEndMet before log second → IsEndMet before log told
either_met before log first second told (inl is) one two = subst (λ (r : Result Unit BoardError). IsEndMet before log r) (sym is) one
either_met before log first second told (inr is) one two = subst (λ (r : Result Unit BoardError). IsEndMet before log r) (sym is) two
