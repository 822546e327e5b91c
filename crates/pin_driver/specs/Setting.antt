-- How the pins of a plan are set, step by step.
use Rattle.std.specs.Prelude.{ℕ, suc, ◌+◌, ◌-◌, ◌==◌, Bool, true, false, nat_lt, nat_le, min, max, List, [], ◌∷◌}
use Rattle.std.specs.Prelude.{drop, length, slice_get}
use Rattle.std.specs.Prelude.{Option, Some, None, if◌then◌else◌}
use Rattle.pin_driver.specs.Exchanges.{Exchange, is_in_place, named_cluster}
use Rattle.pin_driver.specs.Troubles.{trouble, unlike_plan}
use Rattle.pin_driver.specs.declared.answer.HostAnswer.{HostAnswer}
use Rattle.pin_driver.specs.declared.answer.HostAnswer.TheVariants as answers
use Rattle.pin_driver.specs.declared.plan.PlannedChange.{PlannedChange}
use Rattle.pin_driver.specs.declared.question.Ending.TheVariants.{Done, Stopped}
use Rattle.pin_driver.specs.declared.question.Mark.{Mark}
use Rattle.pin_driver.specs.declared.question.Question.{Question}
use Rattle.pin_driver.specs.declared.question.Question.TheVariants as questions
use Rattle.pin_driver.specs.declared.question.Trouble.{Trouble}
use Rattle.pin_driver.specs.declared.setter_state.SetterPhase.{SetterPhase}
use Rattle.pin_driver.specs.declared.setter_state.SetterPhase.TheVariants as phases
use Rattle.pin_driver.specs.declared.setter_state.SetterState.{SetterState}
use Rattle.pin_driver.specs.declared.task.Task.{Task}
use Rattle.pin_driver.specs.declared.task.TheConstants.{LOOKS, REST_SECONDS}

-- how many of the changes make a batch: the fewest with this many inodes
abbrev pub batch_length : ℕ → List PlannedChange → ℕ
batch_length inodes [] = 0
batch_length inodes (change ∷ changes) =
    if nat_le inodes change.inodes then 1 else suc (batch_length (inodes - change.inodes) changes)

-- where a batch ends that begins at this place
abbrev pub batch_end : Task → ℕ → ℕ
batch_end x at = min (length x.plan.changes) (at + batch_length x.pace.batch_inodes (drop at x.plan.changes))

-- all that is begun is certain
abbrev pub closed_mark : Mark → Mark
closed_mark mark = record { begun = mark.begun; certain = mark.begun }

-- the pin that the change at a place gives
abbrev pub given_pin : Option PlannedChange → Option ℕ
given_pin None = None
given_pin (Some change) = change.after

-- what a setter asks in a phase
abbrev pub question_in : SetterPhase → Task → SetterState → Question
question_in phases.Resting x s = questions.Wait REST_SECONDS
question_in phases.Opening x s = questions.Cluster
question_in phases.Noting x s = questions.Store s.mark
question_in phases.Checking x s = questions.Cluster
question_in phases.Getting x s = questions.Get s.at
question_in phases.Setting x s = questions.Set s.at (given_pin (slice_get x.plan.changes s.at))
question_in phases.Looking x s = questions.Roots
question_in phases.Pausing x s = questions.Wait x.pace.poll_seconds
question_in phases.Closing x s = questions.Store (closed_mark s.mark)
question_in (phases.Ended ending) x s = questions.End ending

-- what a setter asks
abbrev pub setter_question : Task → SetterState → Question
setter_question x s = question_in s.phase x s

-- what a setter finds wrong with an answer
abbrev pub setter_trouble : Task → SetterState → HostAnswer → Option Trouble
setter_trouble x s a = trouble (unlike_plan x) s.cluster s.left (setter_question x s) a

-- the next batch begins
abbrev pub begin_batch : Task → SetterState → SetterState
begin_batch x s =
    record s {
      mark = record { begun = max s.mark.begun (batch_end x s.mark.certain); certain = s.mark.certain };
      phase = phases.Noting;
    }

-- the change is behind
abbrev pub passed : SetterState → SetterState
passed s = record s { at = min s.mark.begun (s.at + 1); phase = phases.Checking }

-- the answer says that there is no such directory
abbrev pub is_gone : HostAnswer → Bool
is_gone answers.Gone = true
is_gone _ = false

-- after a look
abbrev pub looked : Bool → SetterState → SetterState
looked true s = record s { still = s.still - 1; phase = if nat_le s.still 1 then phases.Closing else phases.Pausing }
looked false s = record s { still = LOOKS; phase = phases.Pausing }

-- after a text with this mark is stored
abbrev pub after_store : Task → Mark → SetterState → SetterState
after_store x mark s = record s { mark = mark; left = x.pace.longest_wait; still = LOOKS; phase = phases.Checking }

-- after a batch is stored as certain
abbrev pub closed : Task → SetterState → SetterState
closed x s =
    if s.mark.begun == length x.plan.changes
    then record s { phase = phases.Ended Done }
    else begin_batch x (after_store x (closed_mark s.mark) s)

-- after an answer that is no trouble
abbrev pub advanced : SetterPhase → Task → SetterState → HostAnswer → SetterState
advanced phases.Resting x s a = record s { left = s.left - REST_SECONDS; phase = phases.Opening }
advanced phases.Opening x s a = begin_batch x (record s { cluster = named_cluster a })
advanced phases.Noting x s a = after_store x s.mark s
advanced phases.Checking x s a =
    record s { phase = if nat_lt s.at s.mark.begun then phases.Getting else phases.Looking }
advanced phases.Getting x s a = if is_gone a then passed s else record s { phase = phases.Setting }
advanced phases.Setting x s a = passed s
advanced phases.Looking x s a = looked (is_in_place a) s
advanced phases.Pausing x s a = record s { left = s.left - x.pace.poll_seconds; phase = phases.Checking }
advanced phases.Closing x s a = closed x s
advanced (phases.Ended ending) x s a = s

-- a setter after an answer, with what is wrong with it
abbrev pub after_verdict : Option Trouble → Task → SetterState → HostAnswer → SetterState
after_verdict (Some t) x s a = record s { phase = phases.Ended (Stopped t) }
after_verdict None x s a = advanced s.phase x s a

-- a setter after an answer
abbrev pub setter_after : Task → SetterState → HostAnswer → SetterState
setter_after x s a = after_verdict (setter_trouble x s a) x s a

-- a setter at its begin: what was set just before may be read as its old value for some seconds
abbrev pub setter_start : Task → SetterState
setter_start x =
    record {
      mark = x.first;
      at = x.first.certain;
      cluster = None;
      left = x.pace.longest_wait;
      still = LOOKS;
      phase = phases.Resting;
    }

-- nothing more is asked in this phase
abbrev pub has_ended : SetterPhase → Bool
has_ended (phases.Ended ending) = true
has_ended _ = false

-- what was asked and answered up to the end
abbrev pub with_exchange : Bool → Exchange → List Exchange → List Exchange
with_exchange true e h = h
with_exchange false e h = e ∷ h

-- a setter and its exchanges, after more answers
abbrev pub setter_run : Task → SetterState → List Exchange → List HostAnswer → SetterState × List Exchange
setter_run x s h [] = (s, h)
setter_run x s h (a ∷ more) =
    setter_run x (setter_after x s a)
    (with_exchange (has_ended s.phase) (record { asked = setter_question x s; answer = a }) h) more
