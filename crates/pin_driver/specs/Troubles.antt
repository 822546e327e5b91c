-- Which answers are troubles.
use Rattle.std.specs.Prelude.{ℕ, Bool, true, false, not, ◌==◌, ◌&&◌, ◌||◌, nat_lt, List, slice_get}
use Rattle.std.specs.Prelude.{Option, Some, None, if◌then◌else◌}
use Rattle.std.specs.List.{list_all, list_any}
use Rattle.std.specs.Str.{bytes_eq}
use Rattle.pin_driver.specs.declared.answer.ClusterState.{ClusterState}
use Rattle.pin_driver.specs.declared.answer.FoundPin.{FoundPin}
use Rattle.pin_driver.specs.declared.answer.HostAnswer.{HostAnswer}
use Rattle.pin_driver.specs.declared.answer.HostAnswer.TheVariants as answers
use Rattle.pin_driver.specs.declared.plan.PlannedChange.{PlannedChange}
use Rattle.pin_driver.specs.declared.question.Question.{Question}
use Rattle.pin_driver.specs.declared.question.Question.TheVariants as questions
use Rattle.pin_driver.specs.declared.question.Trouble.{Trouble}
use Rattle.pin_driver.specs.declared.question.Trouble.TheVariants as troubles
use Rattle.pin_driver.specs.declared.task.Task.{Task}

-- what an answer that does not fit its question is
abbrev pub misfit : HostAnswer → Trouble
misfit answers.NoAnswer = troubles.NoAnswer
misfit answers.Refused = troubles.Refused
misfit answers.Waited = troubles.Nonsense
misfit (answers.Cluster c) = troubles.Nonsense
misfit answers.Stored = troubles.Nonsense
misfit (answers.Found d) = troubles.Nonsense
misfit answers.Done = troubles.Nonsense
misfit (answers.InPlace b) = troubles.Nonsense
misfit answers.Gone = troubles.Nonsense
misfit answers.Nonsense = troubles.Nonsense

-- each warning is one of these
abbrev pub are_warnings_of : List (List ℕ) → List (List ℕ) → Bool
are_warnings_of old new = list_all (λ w. list_any (bytes_eq w) old) new

-- what is wrong with the cluster, if its first state was this one
abbrev pub cluster_trouble : Option ClusterState → ClusterState → Option Trouble
cluster_trouble None now = None
cluster_trouble (Some first) now =
    if not (bytes_eq first.ranks now.ranks) then Some troubles.RanksChanged
    else if not (are_warnings_of first.warnings.items now.warnings.items) then Some troubles.NewWarning
    else None

-- both are the same pin, or none
abbrev pub is_same_pin : Option ℕ → Option ℕ → Bool
is_same_pin None None = true
is_same_pin (Some a) (Some b) = a == b
is_same_pin None (Some b) = false
is_same_pin (Some a) None = false

-- an inode number that is not known is any
abbrev pub is_inode : Option ℕ → ℕ → Bool
is_inode None found = true
is_inode (Some inode) found = inode == found

-- the pin is the one of before the change; where the change may be made already, it may also be the one of after
abbrev pub is_expected : Bool → PlannedChange → Option ℕ → Bool
is_expected may_be_made change pin = is_same_pin pin change.before || (may_be_made && is_same_pin pin change.after)

-- what is wrong with the directory of a change that is to be made
abbrev pub unlike_change : Bool → Option PlannedChange → FoundPin → Option Trouble
unlike_change may_be_made None found = Some troubles.Nonsense
unlike_change may_be_made (Some change) found =
    if not (is_inode change.inode found.inode) then Some troubles.OtherDirectory
    else if not (is_expected may_be_made change found.pin) then Some troubles.PinChanged
    else None

-- what is wrong with the directory of the change at a place
abbrev pub unlike_plan : Task → ℕ → FoundPin → Option Trouble
unlike_plan x i found = unlike_change (nat_lt i x.first.begun) (slice_get x.plan.changes i) found

-- what is wrong with the answer to a wait
abbrev pub wait_trouble : HostAnswer → Option Trouble
wait_trouble answers.Waited = None
wait_trouble a = Some (misfit a)

-- what is wrong with the answer to a question for the cluster, whose first state was this one
abbrev pub state_trouble : Option ClusterState → HostAnswer → Option Trouble
state_trouble first (answers.Cluster now) = cluster_trouble first now
state_trouble first a = Some (misfit a)

-- what is wrong with the answer to a store
abbrev pub store_trouble : HostAnswer → Option Trouble
store_trouble answers.Stored = None
store_trouble a = Some (misfit a)

-- `judge` says what is wrong with a directory that was found
abbrev pub get_trouble : (FoundPin → Option Trouble) → HostAnswer → Option Trouble
get_trouble judge (answers.Found found) = judge found
get_trouble judge answers.Gone = None
get_trouble judge a = Some (misfit a)

-- what is wrong with the answer to a set; a directory that is gone is passed over
abbrev pub set_trouble : HostAnswer → Option Trouble
set_trouble answers.Done = None
set_trouble answers.Gone = None
set_trouble a = Some (misfit a)

-- `left` is how many seconds of the longest wait are left
abbrev pub roots_trouble : ℕ → HostAnswer → Option Trouble
roots_trouble left (answers.InPlace is) = if not is && left == 0 then Some troubles.TooSlow else None
roots_trouble left a = Some (misfit a)

-- what is wrong with an answer, if anything is
abbrev pub trouble : (ℕ → FoundPin → Option Trouble) → Option ClusterState → ℕ → Question → HostAnswer → Option Trouble
trouble judge first left (questions.Wait seconds) a = wait_trouble a
trouble judge first left questions.Cluster a = state_trouble first a
trouble judge first left (questions.Store mark) a = store_trouble a
trouble judge first left (questions.Get i) a = get_trouble (judge i) a
trouble judge first left (questions.Set i pin) a = set_trouble a
trouble judge first left questions.Roots a = roots_trouble left a
trouble judge first left (questions.End ending) a = None
