-- Boards of a phase: how one goes on to another, and that a full history stays full.
use Rattle.std.proofs.Common.{◌≡◌, ◌≤◌, ℕ, ◌+◌, Bool, true, false, List, [], ◌∷◌, ◌++◌, length, take, drop}
use Rattle.std.proofs.Common.{get_or, Option, Some, None, refl, sym, ap, ◌∙◌, subst, inl, inr, arith, append_assoc, length-append}
use Rattle.std.proofs.lemmas.Bool.Decides.{nat_tests}
use Rattle.std.proofs.lemmas.List.{append_cancel_left}
use Rattle.std.specs.List.{All}
use Rattle.std.specs.Prelude.{nat_le}
use mathlib.Core.List.{IsPrefix}
use Rattle.export_protocol.specs.declared.event.Event.TheVariants.{Begin, End}
use Rattle.export_protocol.specs.declared.step_error.StepError.{StepError}
use Rattle.export_protocol.specs.Step as machine
use Rattle.mds_board.specs.declared.board_error.BoardError.{BoardError}
use Rattle.mds_board.specs.declared.board_error.BoardError.TheVariants as error
use Rattle.mds_board.specs.declared.change.Change.{Change}
use Rattle.mds_board.specs.State as state
use Rattle.mds_board.specs.State.{State}
use Rattle.mds_board.specs.Steps.{IsDue}
use Rattle.phased_board.specs.Going.{IsOfKind, WentOnBy, added, is_of_requests}
use Rattle.phased_board.proofs.Going.{all_parts, parts_of, unpublished}
use Rattle.phased_board.proofs.ByKind.{by_stops, none_named, tail_have}
use Rattle.phased_board.proofs.Requests.{by_requests}
use Rattle.mds_board.specs.declared.entry.Entry.{Entry}
use Rattle.mds_board.specs.History.{World, IsReplay}
use Rattle.mds_board.specs.Promises.{IsKept}
use Rattle.phased_board.specs.Moments.{IsMet}

-- How one goes on to another.

drop_whole : (xs ys : List Entry) → drop (length xs) (xs ++ ys) ≡ ys
drop_whole [] ys = refl
drop_whole (x ∷ xs) ys = drop_whole xs ys

take_whole : (xs ys : List Entry) → take (length xs) (xs ++ ys) ≡ xs
take_whole [] ys = refl
take_whole (x ∷ xs) ys = ap (λ (l : List Entry). x ∷ l) (take_whole xs ys)

all_after : (P : Entry → Type 0) (xs ys : List Entry) → All P (xs ++ ys) → All P ys
all_after P [] ys h = h
all_after P (x ∷ xs) ys h = all_after P xs ys (tail_have P x (xs ++ ys) h)

replay_after : (s : State) (xs ys : List Entry) (t u : State) → IsReplay s xs t → IsReplay s (xs ++ ys) u → IsReplay t ys u
replay_after s [] ys t u h r = subst (λ (v : State). IsReplay v ys u) (sym h) r
replay_after s (x ∷ xs) ys t u h r = replay_after (state.next s x.change) xs ys t u h.3 r.3

only_requests : (n more : ℕ) (c : Change) → IsOfKind true false [] n c → IsOfKind true false [] more c
only_requests n more c (inl is) = inl is
only_requests n more c (inr (inl is)) = let no = is.0 in absurd (cc)
only_requests n more c (inr (inr is)) = absurd (by_stops (λ (d : Change). ⊥) [] none_named c is)

pub goes_between : (before between last : World) → WentOnBy true false before between → WentOnBy true false before last → IsPrefix between.history last.history
    → WentOnBy true false between last
goes_between before between last mid went more =
    let is : last.history ≡ between.history ++ more.0 = sym more.1 in
    let beyond : added between last ≡ more.0 = ap (λ (l : List Entry). drop (length between.history) l) is ∙ drop_whole between.history more.0 in
    let whole : before.history ++ added before last ≡ before.history ++ (added before between ++ more.0) =
    sym (parts_of true false before last went)
    ∙ (is ∙ (ap (λ (l : List Entry). l ++ more.0) (parts_of true false before between mid)
    ∙ append_assoc before.history (added before between) more.0)) in
    let parts : added before last ≡ added before between
    ++ more.0 = append_cancel_left before.history (added before last) (added before between ++ more.0) whole in
    record {
      kept = ap (λ (l : List Entry). take (length between.history) l) is ∙ take_whole between.history more.0;
      alone = rw beyond (λ i d l.
          only_requests (length before.state.cluster.orders) (length between.state.cluster.orders) (get_or more.0 i d).change
          (all_after (λ (e : Entry). IsOfKind true false [] (length before.state.cluster.orders) e.change) (added before between) more.0
          (subst (λ (l : List Entry). All (λ e. IsOfKind true false [] (length before.state.cluster.orders) e.change) l) parts went.alone) i d l));
      replay = rw beyond (replay_after before.state (added before between) more.0 between.state last.state mid.replay
          (subst (λ (l : List Entry). IsReplay before.state l last.state) parts went.replay));
      same_book = (went.same_book.0 ∙ sym mid.same_book.0, went.same_book.1 ∙ sym mid.same_book.1);
      same_map = inl (unpublished before last went ∙ sym (unpublished before between mid));
    }

-- A full history.

events_by : (s : State) (es : List Entry) (u : State) → IsReplay s es u → u.events ≡ s.events + length es
events_by s [] u r = let same = ap (λ (v : State). v.events) r in omega arith
events_by s (e ∷ es) u r = let rest = events_by (state.next s e.change) es u r.3 in omega arith

of_step : (x : Option StepError) → state.of_step x ≡ Some error.HistoryFull → ⊥
of_step None h = cc
of_step (Some x) h = cc

other_cause : (s : State) (c : Change) → is_of_requests c ≡ true → state.cause s c ≡ Some error.HistoryFull → ⊥
other_cause s =
    by_requests (λ (c : Change). (state.cause s c ≡ Some error.HistoryFull → ⊥)) (λ r d. of_step (machine.refusal s.cluster (Begin r d)))
    (λ t. of_step (machine.refusal s.cluster (End t))) (λ hits h. cc)

by_limit : (events : ℕ) (full : Bool) (cause : Option BoardError) → nat_le state.event_limit events ≡ full
    → state.or_cause (state.when full error.HistoryFull) cause ≡ Some error.HistoryFull
    → (cause ≡ Some error.HistoryFull → ⊥) → 1048576 ≤ events
by_limit events true cause is h other = grind (arith, nat_tests)
by_limit events false cause is h other = absurd (other h)

is_full : (s : State) (c : Change) → is_of_requests c ≡ true → IsDue s c error.HistoryFull → 1048576 ≤ s.events
unfolding state.refusal
is_full s c is (inl cause) = by_limit s.events (nat_le state.event_limit s.events) (state.cause s c) refl cause (other_cause s c is)
is_full s c is (inr (none, inl memory)) = absurd (cc)
is_full s c is (inr (none, inr best)) = let not_best = best.0 in absurd (cc)

prefix_length : (xs ys : List Entry) → IsPrefix xs ys → length xs ≤ length ys
prefix_length xs ys p = let long = ap (λ (l : List Entry). length l) p.1 in let both = length-append xs p.0 in omega arith

pub full_at_last : (before last : World) (c : Change) → is_of_requests c ≡ true → WentOnBy true false before last → IsKept last
    → IsMet before last.history c error.HistoryFull → 1048576 ≤ length last.history
full_at_last before last c is went kept met =
    let full = is_full met.board.state c is met.due in
    let all = events_by (state.start last.state.directories.limit last.state.pins.active) last.history last.state kept.replay in
    let more = events_by before.state (added before last) last.state went.replay in
    let long = ap (λ (l : List Entry). length l) (parts_of true false before last went) ∙ length-append before.history (added before last) in
    let some = events_by before.state (added before met.board) met.board.state met.went.replay in
    let short = ap (λ (l : List Entry). length l) (all_parts true true met.stops before met.board met.went)
    ∙ length-append before.history (added before met.board) in
    let less = prefix_length met.board.history last.history met.kept in
    omega arith
