-- How the pins of before a plan are restored, step by step.
use Rattle.std.specs.Prelude.{ℕ, ◌-◌, ◌==◌, Bool, true, false, not, ◌&&◌, ◌||◌, nat_le, List, [], ◌∷◌, slice_get}
use Rattle.std.specs.Prelude.{Option, Some, None, if◌then◌else◌}
use Rattle.pin_driver.specs.Exchanges.{Exchange, named_cluster}
use Rattle.pin_driver.specs.Setting.{with_exchange}
use Rattle.pin_driver.specs.Troubles.{trouble, is_inode, is_same_pin}
use Rattle.pin_driver.specs.declared.answer.FoundPin.{FoundPin}
use Rattle.pin_driver.specs.declared.answer.HostAnswer.{HostAnswer}
use Rattle.pin_driver.specs.declared.answer.HostAnswer.TheVariants as answers
use Rattle.pin_driver.specs.declared.plan.PlannedChange.{PlannedChange}
use Rattle.pin_driver.specs.declared.question.Ending.TheVariants.{Done, Stopped}
use Rattle.pin_driver.specs.declared.question.Mark.{Mark}
use Rattle.pin_driver.specs.declared.question.Question.{Question}
use Rattle.pin_driver.specs.declared.question.Question.TheVariants as questions
use Rattle.pin_driver.specs.declared.question.Trouble.{Trouble}
use Rattle.pin_driver.specs.declared.restorer_state.RestorerPhase.{RestorerPhase}
use Rattle.pin_driver.specs.declared.restorer_state.RestorerPhase.TheVariants as phases
use Rattle.pin_driver.specs.declared.restorer_state.RestorerState.{RestorerState}
use Rattle.pin_driver.specs.declared.task.Task.{Task}
use Rattle.pin_driver.specs.declared.task.TheConstants.{REST_SECONDS}

-- a directory that was found is no trouble on the way back
abbrev pub any_directory : ℕ → FoundPin → Option Trouble
any_directory i found = None

-- all that is begun may be set, and nothing is certain
abbrev pub doubtful_mark : Mark → Mark
doubtful_mark mark = record { begun = mark.begun; certain = 0 }

-- nothing is begun
abbrev pub no_mark : Mark
no_mark = record { begun = 0; certain = 0 }

-- the pin before the change at a place
abbrev pub former_pin : Option PlannedChange → Option ℕ
former_pin None = None
former_pin (Some change) = change.before

-- the pin is the one that the change gives; where it is not certain that the change was made, it may also be the one of
-- before, which a directory may still show for some seconds
abbrev pub is_given : Bool → PlannedChange → Option ℕ → Bool
is_given is_certain change pin = is_same_pin pin change.after || (not is_certain && is_same_pin pin change.before)

-- the directory is the one of the change, with a pin that is restored
abbrev pub is_restorable : Bool → Option PlannedChange → FoundPin → Bool
is_restorable is_certain None found = false
is_restorable is_certain (Some change) found = is_inode change.inode found.inode && is_given is_certain change found.pin

-- the directory of the change at a place was found with a pin that is restored
abbrev pub restorable_at : Task → ℕ → FoundPin → Bool
restorable_at x i found = is_restorable (not (nat_le x.first.certain i)) (slice_get x.plan.changes i) found

-- what a restorer asks in a phase
abbrev pub restorer_question_in : RestorerPhase → Task → RestorerState → Question
restorer_question_in phases.Resting x s = questions.Wait REST_SECONDS
restorer_question_in phases.Opening x s = questions.Cluster
restorer_question_in phases.Noting x s = questions.Store (doubtful_mark x.first)
restorer_question_in phases.Checking x s = questions.Cluster
restorer_question_in phases.Getting x s = questions.Get (s.left - 1)
restorer_question_in phases.Restoring x s =
    questions.Set (s.left - 1) (former_pin (slice_get x.plan.changes (s.left - 1)))
restorer_question_in phases.Closing x s = questions.Store no_mark
restorer_question_in (phases.Ended ending) x s = questions.End ending

-- what a restorer asks
abbrev pub restorer_question : Task → RestorerState → Question
restorer_question x s = restorer_question_in s.phase x s

-- what a restorer finds wrong with an answer
abbrev pub restorer_trouble : Task → RestorerState → HostAnswer → Option Trouble
restorer_trouble x s a = trouble any_directory s.cluster x.pace.longest_wait (restorer_question x s) a

-- the change is behind
abbrev pub restored_one : RestorerState → RestorerState
restored_one s = record s { left = s.left - 1; phase = phases.Checking }

-- whether the directory of an answer has a pin that is restored
abbrev pub is_to_restore : Task → ℕ → HostAnswer → Bool
is_to_restore x i (answers.Found found) = restorable_at x i found
is_to_restore x i _ = false

-- after an answer that is no trouble
abbrev pub restorer_advanced : RestorerPhase → Task → RestorerState → HostAnswer → RestorerState
restorer_advanced phases.Resting x s a = record s { phase = phases.Opening }
restorer_advanced phases.Opening x s a = record s { cluster = named_cluster a; phase = phases.Noting }
restorer_advanced phases.Noting x s a = record s { phase = phases.Checking }
restorer_advanced phases.Checking x s a = record s { phase = if s.left == 0 then phases.Closing else phases.Getting }
restorer_advanced phases.Getting x s a =
    if is_to_restore x (s.left - 1) a then record s { phase = phases.Restoring } else restored_one s
restorer_advanced phases.Restoring x s a = restored_one s
restorer_advanced phases.Closing x s a = record s { phase = phases.Ended Done }
restorer_advanced (phases.Ended ending) x s a = s

-- a restorer after an answer, with what is wrong with it
abbrev pub restorer_verdict : Option Trouble → Task → RestorerState → HostAnswer → RestorerState
restorer_verdict (Some t) x s a = record s { phase = phases.Ended (Stopped t) }
restorer_verdict None x s a = restorer_advanced s.phase x s a

-- a restorer after an answer
abbrev pub restorer_after : Task → RestorerState → HostAnswer → RestorerState
restorer_after x s a = restorer_verdict (restorer_trouble x s a) x s a

-- a restorer at its begin: what may be set already may be read wrongly for some seconds
abbrev pub restorer_start : Task → RestorerState
restorer_start x = record { left = x.first.begun; cluster = None; phase = phases.Resting }

-- nothing more is asked in this phase
abbrev pub restorer_ended : RestorerPhase → Bool
restorer_ended (phases.Ended ending) = true
restorer_ended _ = false

-- a restorer and its exchanges, after more answers
abbrev pub restorer_run : Task → RestorerState → List Exchange → List HostAnswer → RestorerState × List Exchange
restorer_run x s h [] = (s, h)
restorer_run x s h (a ∷ more) =
    restorer_run x (restorer_after x s a)
    (with_exchange (restorer_ended s.phase) (record { asked = restorer_question x s; answer = a }) h) more
