-- Each line leaves a longer history, or the same.
use Rattle.std.proofs.Common.{◌≡◌, ◌==◌, ℕ, Bool, true, false, cond, List, [], ◌∷◌, ◌++◌, length, refl, sym}
use Rattle.std.proofs.Common.{ap, subst, ◌∙◌, append_assoc, append-nil, inl, inr, Option, Some, None, Result, Ok, Err}
use Rattle.std.specs.Prelude.{option_map}
use Rattle.phased_board.specs.Going.{WentOnWithStops, added}
use Rattle.phased_board.specs.Stops.{ranks_of}
use Rattle.phased_board.proofs.Going.{all_parts}
use Rattle.mds_board.specs.declared.board_error.BoardError.{BoardError}
use Rattle.mds_board.specs.declared.change.Change.{Change}
use Rattle.mds_board.specs.declared.change.Change.TheVariants as change
use Rattle.mds_board.specs.State.{refusal}
use Rattle.export_protocol.specs.Step.{no_rank}
use Rattle.export_protocol.specs.declared.event.Event.{Event}
use Rattle.export_protocol.specs.declared.event.Event.TheVariants as event
use Rattle.export_protocol.specs.declared.event.Reply.{Reply}
use Rattle.mds_board.specs.declared.entry.Entry.{Entry}
use Rattle.mds_board.specs.History.{World, entry_of, recorded}
use Rattle.mds_types.specs.Mask.{mask_bits}
use Rattle.mds_types.specs.declared.plan.Plan.{Plan}
use Rattle.script_commands.specs.Commands as line
use Rattle.script_commands.specs.Commands.{Asked, Command, asked}
use Rattle.script_engine.specs.Answers.{Answer}
use Rattle.script_board.specs.declared.fault.Fault.{Fault}
use Rattle.script_board.specs.Board.{BoardData, publish}
use Rattle.script_board.specs.Commands.{◌>>=◌, changed, find, last_slash, make_below, masked, parent_path, replanned}
use Rattle.script_board.specs.Fault.{unless}
use Rattle.script_board.specs.Looks.{refused_step}
use Rattle.script_board.specs.Plan.{planned}
use Rattle.script_board.specs.Serve.{IsGone}
use Rattle.script_board.specs.Steps.{find_all, take_step, with_request}
use Rattle.script_session.specs.Does.{Does, meaning}
use Rattle.script_session.specs.History.{GoesOn, IsBeginning}
use Rattle.script_session.specs.Printed.{Printed}
use Rattle.script_session.specs.Steps.{event_of}
use Rattle.script_session.specs.Session.{DoesAt, IsDone, IsTold, SessionData, answers, published}

itself : (h : List Entry) → IsBeginning h h
itself h = ([], sym (append-nil h))

further : (a b c : List Entry) → IsBeginning a b → IsBeginning b c → IsBeginning a c
further a b c p q = (p.0 ++ q.0, q.1 ∙ ap (λ (h : List Entry). h ++ q.0) p.1 ∙ append_assoc a p.0 q.0)

-- the same of boards
abbrev Longer : BoardData → BoardData → Type 0
Longer b c = IsBeginning b.world.history c.world.history

one_more : (w : World) (c : Change) → IsBeginning w.history (recorded w c).history
one_more w c = (entry_of w.state c ∷ [], refl)

from_unless : (r : Option BoardError) (b x new : BoardData) → Longer b x → unless r x ≡ Ok new → Longer b new
from_unless None b x new longer is = let same : x ≡ new = cc in subst (λ (y : BoardData). Longer b y) same longer
from_unless (Some e) b x new longer is = cc

bound : (b new : BoardData) (r : Result ℕ Fault) (f : ℕ → Result BoardData Fault) → ((d : ℕ) → f d ≡ Ok new → Longer b new) → (r >>= f) ≡ Ok new → Longer b new
bound b new (Ok d) f longer is = longer d is
bound b new (Err e) f longer is = cc

abbrev fine : BoardData → Result BoardData Fault
fine x = Ok x

module _ (b new : BoardData) where
  from_changed : (c : Change) → changed b c ≡ Ok new → Longer b new
  from_changed c is = from_unless (refusal b.world.state c) b _ new (one_more b.world c) is

  from_replanned : (c : Change) → replanned b c ≡ Ok new → Longer b new
  from_replanned c is = from_unless (refusal b.world.state c) b _ new (one_more b.world c) is

  from_made : (s : Option (List ℕ × List ℕ)) (inodes : ℕ) → make_below b s inodes ≡ Ok new → Longer b new
  from_made None inodes is = cc
  from_made (Some parts) inodes is = bound b new (find b (parent_path parts.0)) _ (λ parent. from_replanned (change.Make parent parts.1 inodes)) is

  from_masked : (m : Option ℕ) → masked b m ≡ Ok new → Longer b new
  from_masked None is = cc
  from_masked (Some bits) is = from_replanned (change.Mask bits) is

  from_same : (x : BoardData) → Longer b x → fine x ≡ Ok new → Longer b new
  from_same x longer is = let same : x ≡ new = cc in subst (λ (y : BoardData). Longer b y) same longer

-- a reply and the board after it
abbrev Stepped : Type 0
Stepped = Reply × BoardData

abbrev taken : Stepped → Result Stepped Fault
taken x = Ok x

from_unless_taken : (r : Option BoardError) (b : BoardData) (x y : Stepped) → Longer b x.1 → unless r x ≡ Ok y → Longer b y.1
from_unless_taken None b x y longer is = let same : x ≡ y = cc in subst (λ (z : Stepped). Longer b z.1) same longer
from_unless_taken (Some e) b x y longer is = cc

from_step : (b : BoardData) (e : Event) (y : Stepped) → take_step b e ≡ Ok y → Longer b y.1
from_step b e y is = from_unless_taken (refusal b.world.state (change.Step e)) b _ y (one_more b.world (change.Step e)) is

step_bound : {A : Type 0} (b : BoardData) (y : Stepped) (r : Result A Fault) (f : A → Result Stepped Fault)
    → ((x : A) → r ≡ Ok x → f x ≡ Ok y → Longer b y.1) → (r >>= f) ≡ Ok y → Longer b y.1
step_bound b y (Ok x) f longer is = longer x refl is
step_bound b y (Err e) f longer is = cc

from_start : (b : BoardData) (from to : ℕ) (paths : List (List ℕ)) (y : Stepped)
    → (find_all b paths >>= λ dirs. take_step b (event.Start from to dirs)) ≡ Ok y → Longer b y.1
from_start b from to paths y is = step_bound b y (find_all b paths) _ (λ dirs _ taken. from_step b (event.Start from to dirs) y taken) is

counted_longer : (b : BoardData) (done y : Stepped) (rank d : ℕ) → Longer b done.1 → taken (done.0, with_request done.1 rank d) ≡ Ok y → Longer b y.1
counted_longer b done y rank d longer is = let same : (done.0, with_request done.1 rank d) ≡ y = cc in subst (λ (z : Stepped). Longer b z.1) same longer

from_begin : (b : BoardData) (rank : ℕ) (path : List ℕ) (y : Stepped)
    → (find b path >>= λ d. take_step b (event.Begin rank d) >>= λ done. taken (done.0, with_request done.1 rank d)) ≡ Ok y → Longer b y.1
from_begin b rank path y is =
    step_bound b y (find b path) _
    (λ d _ begun. step_bound b y (take_step b (event.Begin rank d)) _
    (λ done told counted. counted_longer b done y rank d (from_step b (event.Begin rank d) done told) counted) begun) is

went_longer : (r x : Bool) (stops : List ℕ) (b new : BoardData) → WentOnWithStops r x stops b.world new.world → Longer b new
went_longer r x stops b new went = (added b.world new.world, all_parts r x stops b.world new.world went)

gone_longer : (b : BoardData) (refused : List Fault) (new : BoardData) → IsGone b refused new → Longer b new
gone_longer b refused new h = went_longer true false [] b new h.0.went

planned_longer : (b : BoardData) (plan : Plan) (new : BoardData) → new ≡ planned b plan → Longer b new
planned_longer b plan new is =
    let opened : World = recorded b.world change.Open in
    subst (λ (x : BoardData). Longer b x) (sym is)
    (further b.world.history opened.history (recorded opened (change.Adopt plan)).history (one_more b.world change.Open) (one_more opened (change.Adopt plan)))

same_longer : (b new : BoardData) → new ≡ b → Longer b new
same_longer b new is = subst (λ (x : BoardData). Longer b x) (sym is) (itself b.world.history)

does_longer : (b : BoardData) (c : Command) (p : Printed) (ample : Bool) (new : BoardData) → Does b (meaning c) p ample new → Longer b new
does_longer b (line.Ranks n) p ample new h = let no = h.0 in cc
does_longer b (line.Mask text) p ample new h = from_masked b new (mask_bits text) h.0
does_longer b (line.MakeDir path inodes) p ample new h = from_made b new (last_slash path) inodes h.0
does_longer b (line.RemoveDir path) p ample new h = bound b new (find b path) _ (λ d. from_replanned b new (change.Remove d)) h.0
does_longer b (line.Pin path value) p ample new h = bound b new (find b path) _ (λ d. from_replanned b new (change.Pin d value)) h.0
does_longer b (line.Load path hits kind) p ample new h = bound b new (find b path) _ (λ d. from_same b new _ (itself b.world.history)) h.0
does_longer b (line.Weight read write) p ample new h = from_changed b new _ h.0
does_longer b line.Go p ample new h = gone_longer b p.refused new h.0
does_longer b line.Tick p ample new h = from_changed b new change.Tick h.0
does_longer b (line.Cost paths) p ample new h = same_longer b new h.4
does_longer b line.Plan p ample new h = planned_longer b h.0 new h.1.adopted
does_longer b line.Move p ample new h = went_longer false true (ranks_of b.stops) b new h.2.went
does_longer b line.Traffic p ample new h = went_longer true true (ranks_of b.stops) b new h.2.served.went
does_longer b (line.Stop rank) p ample new h = from_changed b new _ h.0
does_longer b (line.Fail rank round) p ample new h =
    from_unless (refused_step (no_rank b.world.state.cluster rank)) b _ new (itself b.world.history) h.0
does_longer b (line.Restart rank) p ample new h = from_changed b new _ h.0
does_longer b line.Stat p ample new h = same_longer b new h.2
does_longer b (line.Start from to paths) p ample new h = from_start b from to paths (h.0, new) h.1
does_longer b (line.Begin rank path) p ample new h = from_begin b rank path (h.0, new) h.1
does_longer b (line.Step step) p ample new h = from_step b (event_of step) (h.0, new) h.1
does_longer b (line.Export x) p ample new h = same_longer b new h.4
does_longer b (line.Journal rank) p ample new h = same_longer b new h.4

-- a session's board goes on
abbrev OnFrom : SessionData → SessionData → Type 0
OnFrom old new = GoesOn old.board new.board

stays : (o : Option BoardData) → GoesOn o o
stays None = tt
stays (Some b) = itself b.world.history

done_on : (o : Option BoardData) (limit : ℕ) (c : Command) (p : Printed) (ample : Bool) (new : BoardData) → DoesAt limit o c p ample new → GoesOn o (Some new)
done_on None limit c p ample new h = tt
done_on (Some b) limit c p ample new h = does_longer b c p ample new h

line_on : (s : SessionData) (what : Asked) (p : Printed) (ample : Bool) (mid : SessionData) → IsDone s what p ample mid → OnFrom s mid
line_on s line.Nothing p ample mid h = subst (λ (x : SessionData). OnFrom s x) (sym h.2) (stays s.board)
line_on s line.Syntax p ample mid h = absurd h
line_on s (line.Asks c) p ample mid h = subst (λ (x : SessionData). OnFrom s x) (sym h.2) (done_on s.board s.limit c p ample h.0 h.1)

-- publishing the map adds no event
published_on : (o u : Option BoardData) → GoesOn o u → GoesOn o (option_map publish u)
published_on None u h = tt
published_on (Some b) (Some c) h = h
published_on (Some b) None h = absurd h

settled_on : (o : Option BoardData) (x : Bool) (mid : SessionData) → GoesOn o mid.board
    → GoesOn o (let after : SessionData = cond x (published mid) mid in after).board
settled_on o true mid h = published_on o mid.board h
settled_on o false mid h = h

told_on : (old : SessionData) (number : ℕ) (p : Printed) (ample : Bool) (mid : SessionData) (a : Answer) (new : SessionData)
    → OnFrom old mid → IsTold number p ample mid a new → OnFrom old new
told_on old number p ample mid a new h (inl (inl is)) =
    subst (λ (x : SessionData). OnFrom old x) (sym is.1) (settled_on old.board (length p.refused == 0) mid h)
told_on old number p ample mid a new h (inl (inr is)) = subst (λ (x : SessionData). OnFrom old x) (sym is.1) h
told_on old number p ample mid a new h (inr cut) = subst (λ (x : SessionData). OnFrom old x) (sym cut.3) h

pub answered_on : (old new : SessionData) (number : ℕ) (bytes : List ℕ) (a : Answer) → answers old number bytes a new → GoesOn old.board new.board
answered_on old new number bytes a (inl (p, ample, mid, done, told)) = told_on old number p ample mid a new (line_on old (asked bytes) p ample mid done) told
answered_on old new number bytes a (inr (inl (fault, stands, is, same))) = subst (λ (x : SessionData). OnFrom old x) (sym same) (stays old.board)
answered_on old new number bytes a (inr (inr (none, is, same))) = subst (λ (x : SessionData). OnFrom old x) (sym same) (stays old.board)
