-- Runs of setters and restorers of one plan, each begun from a text that the one before it may have left, the last one
-- first.
use Rattle.std.specs.Prelude.{◌≡◌, ◌⊎◌, ℕ, ◌<◌, Bool, true, false, List, [], ◌∷◌, length}
use Rattle.pin_driver.specs.Driven.{IsDriven, IsMark, settled_places}
use Rattle.pin_driver.specs.Exchanges.{Exchange, HasPlace, MayBeStored, WasSet}
use Rattle.pin_driver.specs.Restored.{IsRestored, put_right}
use Rattle.pin_driver.specs.Restoring.{restorer_question, restorer_run, restorer_start}
use Rattle.pin_driver.specs.Setting.{setter_question, setter_run, setter_start}
use Rattle.pin_driver.specs.declared.answer.HostAnswer.{HostAnswer}
use Rattle.pin_driver.specs.declared.plan.PinPlan.{PinPlan}
use Rattle.pin_driver.specs.declared.question.Mark.{Mark}
use Rattle.pin_driver.specs.declared.question.Question.{Question}
use Rattle.pin_driver.specs.declared.task.Pace.{Pace}
use Rattle.pin_driver.specs.declared.task.Task.{Task}

-- what a setter asked and was answered, when it was given these answers, the last exchange first
abbrev pub setter_exchanges : Task → List HostAnswer → List Exchange
setter_exchanges x more = (setter_run x (setter_start x) [] more).1

-- what it asks then
abbrev pub setter_asks : Task → List HostAnswer → Question
setter_asks x more = setter_question x (setter_run x (setter_start x) [] more).0

-- the same of a restorer
abbrev pub restorer_exchanges : Task → List HostAnswer → List Exchange
restorer_exchanges x more = (restorer_run x (restorer_start x) [] more).1

-- what it asks then
abbrev pub restorer_asks : Task → List HostAnswer → Question
restorer_asks x more = restorer_question x (restorer_run x (restorer_start x) [] more).0

-- a run, from the text with this mark, which was given these answers and then ended, or was left
pub record Session : Type 0 where
  pub way_back : Bool
  pub first : Mark
  pub pace : Pace
  pub answers : List HostAnswer

-- the task of a run of this plan
abbrev pub session_task : PinPlan → Session → Task
session_task plan s = record { plan = plan; first = s.first; pace = s.pace }

-- the exchanges of a way back, or of a setter
abbrev pub exchanges_of : Bool → Task → List HostAnswer → List Exchange
exchanges_of true x more = restorer_exchanges x more
exchanges_of false x more = setter_exchanges x more

-- the exchanges of a run of this plan
abbrev pub session_exchanges : PinPlan → Session → List Exchange
session_exchanges plan s = exchanges_of s.way_back (session_task plan s) s.answers

-- the text with this mark may be the one that is stored after these runs
abbrev pub MayBeLeft : PinPlan → Mark → List Session → Mark → Type 0
MayBeLeft plan start [] mark = mark ≡ start
MayBeLeft plan start (s ∷ older) mark = MayBeStored s.first (session_exchanges plan s) mark

-- each run begins from a text that may be the one that is stored then
abbrev pub AreSessions : PinPlan → Mark → List Session → Type 0
AreSessions plan start [] = Unit {0}
AreSessions plan start (s ∷ older) = MayBeLeft plan start older s.first × AreSessions plan start older

-- the pin of the change at a place may be ours after these exchanges: a setter was asked to set it; or it was before,
-- and no way back restored it, or found that it is not ours
abbrev pub OursAfter : Bool → Task → List Exchange → ℕ → Type 0 → Type 0
OursAfter true x h i before = before × (HasPlace i (put_right x h) → ⊥)
OursAfter false x h i before = WasSet h i ⊎ before

-- the same after many runs
abbrev pub MayBeOurs : PinPlan → Mark → List Session → ℕ → Type 0
MayBeOurs plan start [] i = i < start.begun
MayBeOurs plan start (s ∷ older) i =
    OursAfter s.way_back (session_task plan s) (session_exchanges plan s) i (MayBeOurs plan start older i)

-- the change at a place is settled after these exchanges: a setter did it; or it was before, and no way back was
-- asked to set any pin
abbrev pub SettledAfter : Bool → List Exchange → ℕ → Type 0 → Type 0
SettledAfter true h i before = before × ((j : ℕ) → WasSet h j → ⊥)
SettledAfter false h i before = HasPlace i (settled_places h) ⊎ before

-- the same after many runs
abbrev pub IsMadeSure : PinPlan → Mark → List Session → ℕ → Type 0
IsMadeSure plan start [] i = i < start.certain
IsMadeSure plan start (s ∷ older) i =
    SettledAfter s.way_back (session_exchanges plan s) i (IsMadeSure plan start older i)

-- all that a run asked is right
abbrev pub IsRightRun : Bool → Task → List HostAnswer → Type 0
IsRightRun true x more = IsRestored x (restorer_exchanges x more) (restorer_asks x more)
IsRightRun false x more = IsDriven x (setter_exchanges x more) (setter_asks x more)

-- each of many runs asked what is right
abbrev pub AreRightRuns : PinPlan → List Session → Type 0
AreRightRuns plan [] = Unit {0}
AreRightRuns plan (s ∷ older) = IsRightRun s.way_back (session_task plan s) s.answers × AreRightRuns plan older

-- whatever was answered in these runs, and wherever each was left
pub record AreAccounted (plan : PinPlan) (start : Mark) (sessions : List Session) (mark : Mark) : Type 0 where
  -- each run asked what is right
  pub runs : AreRightRuns plan sessions
  -- the text is one of the plan
  pub sound : IsMark mark (length plan.changes)
  -- it names each pin that may be ours
  pub ours : (i : ℕ) → MayBeOurs plan start sessions i → i < mark.begun
  -- what it says is certain is settled
  pub certain : (i : ℕ) → i < mark.certain → IsMadeSure plan start sessions i
