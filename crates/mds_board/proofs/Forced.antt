-- The plan in force is in the history, and best for its problem.
use Rattle.std.proofs.Common.{◌≡◌, ℕ, suc, ◌+◌, List, [], ◌∷◌, Option, Some, None, refl, sym, ap, ◌∙◌, subst, arith}
use Rattle.std.specs.Borrow.{Bor}
use Rattle.std.specs.Option.{option_and_then, option_map}
use Rattle.std.specs.Prelude.{MatchOption, slice_get}
use Rattle.mds_types.specs.declared.plan.Plan.{Plan}
use Rattle.mds_types.specs.Certificate.{IsBest}
use Rattle.mds_board.specs.declared.change.Answer.{Answer}
use Rattle.mds_board.specs.declared.change.Change.{Change}
use Rattle.mds_board.specs.declared.change.Change.TheVariants.{Make, Remove, Mask, Deposit, Tick, Step, Open, Adopt}
use Rattle.mds_board.specs.declared.change.Change.TheVariants as change
use Rattle.mds_board.specs.State.{State, Opened, Force, start, enforced, happens, next}
use Rattle.mds_board.specs.Steps.{Present, IsAllowed, IsBestForOpen}
use Rattle.mds_board.specs.declared.entry.Entry.{Entry}
use Rattle.mds_board.specs.History.{World, IsReplay, IsHistory, world_of}
use Rattle.mds_board.specs.InForce.{IsBestInForce, adopted, adopted_at, plan_in_force, plan_of}

-- what is in force was adopted by its event, and is best for its problem
abbrev pub IsShown : List Entry → Option Force → Type 0
IsShown all None = Unit {0}
IsShown all (Some f) = (plan : Plan) × (adopted_at all f.event ≡ Some plan) × IsBest f.problem plan

come : (all : List Entry) (o : Option Opened) (event : ℕ) (plan : Plan) → adopted_at all event ≡ Some plan → IsBestForOpen o plan
    → IsShown all (enforced o event)
come all None event plan at best = absurd best
come all (Some o) event plan at best = (plan, at, best.0)

shown_next : (all : List Entry) (s : State) (c : Change) (reply : Answer) → IsShown all s.in_force
    → slice_get all s.events ≡ Some (record { change = c; reply = reply }) → IsAllowed s c → IsShown all (next s c).in_force
unfolding happens
shown_next all s (Make parent name inodes) reply h at best = h
shown_next all s (Remove d) reply h at best = h
shown_next all s (change.Pin d value) reply h at best = h
shown_next all s (Mask bits) reply h at best = h
shown_next all s (change.Weights read write) reply h at best = h
shown_next all s (Deposit hits) reply h at best = h
shown_next all s Tick reply h at best = h
shown_next all s (Step e) reply h at best = h
shown_next all s Open reply h at best = h
shown_next all s (Adopt plan) reply h at best = come all s.opened s.events plan (ap (option_and_then (λ (e : Entry). adopted e.change)) at) best

shown_after : (all : List Entry) (s : State) (es : List Entry) (t : State) → IsShown all s.in_force
    → ((k : ℕ) → slice_get all (s.events + k) ≡ slice_get es k) → IsReplay s es t → IsShown all t.in_force
shown_after all s [] t h at replay = subst (λ (u : State). IsShown all u.in_force) (sym replay) h
shown_after all s (e ∷ es) t h at replay =
    let here : s.events ≡ s.events + 0 = omega arith in
    shown_after all (next s e.change) es t
    (shown_next all s e.change e.reply h (ap (slice_get all) here ∙ at 0) replay.1)
    (λ k. let further : s.events + 1 + k ≡ s.events + suc k = omega arith in ap (slice_get all) further ∙ at (suc k))
    replay.3

pub shown : (s : State) (history : List Entry) → IsHistory s history → IsShown history s.in_force
shown s history h =
    shown_after history (start s.directories.limit s.pins.active) history s tt
    (λ k. let first : 0 + k ≡ k = omega arith in ap (slice_get history) first) h.replay

-- the plan that is read is best
pub read_is_best : (history : List Entry) (force : Option Force) (plan : Plan) → IsShown history force → plan_of history force ≡ Some plan
    → IsBestInForce force plan
read_is_best history None plan h is = absurd (cc)
read_is_best history (Some f) plan h is = subst (λ (p : Plan). IsBest f.problem p) (only (sym h.1 ∙ is)) h.2
  where
    only : {x y : Plan} → Some x ≡ Some y → x ≡ y
    only same = cc

-- and where none is, none is in force
pub none_is_none : (history : List Entry) (force : Option Force) → IsShown history force → plan_of history force ≡ None → force ≡ None
none_is_none history None h is = refl
none_is_none history (Some f) h is = absurd (differ (sym h.1 ∙ is))
  where
    differ : {x : Plan} → Some x ≡ None → ⊥
    differ same = cc

-- a board's own history says so of it
pub shown_of : (w : World) (s : Present) (history : List Entry) → world_of s history ≡ w → IsHistory s.state history → IsShown w.history w.state.in_force
shown_of w s history same h = subst (λ (v : World). IsShown v.history v.state.in_force) same (shown s.state history h)

-- what is read of the history is best, and nothing is read where nothing is in force
pub read_in_force : (w : World) (found : Option (Bor Plan)) → IsShown w.history w.state.in_force → option_map (λ plan. plan.now) found ≡ plan_in_force w
    → MatchOption found (w.state.in_force ≡ None) (λ plan. IsBestInForce w.state.in_force plan.now)
read_in_force w None h is = none_is_none w.history w.state.in_force h (sym is)
read_in_force w (Some plan) h is = read_is_best w.history w.state.in_force plan.now h (sym is)
