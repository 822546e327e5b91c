-- What was asked and answered, the last exchange first.
use Rattle.std.specs.Prelude.{◌≡◌, ◌⊎◌, ℕ, suc, ◌+◌, ◌-◌, Bool, true, false, List, [], ◌∷◌, Option, Some, None}
use Rattle.pin_driver.specs.Troubles.{trouble}
use Rattle.pin_driver.specs.declared.answer.ClusterState.{ClusterState}
use Rattle.pin_driver.specs.declared.answer.FoundPin.{FoundPin}
use Rattle.pin_driver.specs.declared.answer.HostAnswer.{HostAnswer}
use Rattle.pin_driver.specs.declared.answer.HostAnswer.TheVariants as answers
use Rattle.pin_driver.specs.declared.question.Mark.{Mark}
use Rattle.pin_driver.specs.declared.question.Question.{Question}
use Rattle.pin_driver.specs.declared.question.Question.TheVariants as questions
use Rattle.pin_driver.specs.declared.question.Trouble.{Trouble}
use Rattle.pin_driver.specs.declared.task.Task.{Task}

-- a question, and the answer to it
pub record Exchange : Type 0 where
  pub asked : Question
  pub answer : HostAnswer

-- the state of the cluster that an answer names
abbrev pub named_cluster : HostAnswer → Option ClusterState
named_cluster (answers.Cluster c) = Some c
named_cluster _ = None

-- the same, where that was asked for
abbrev pub asked_cluster : Question → HostAnswer → Option ClusterState
asked_cluster questions.Cluster a = named_cluster a
asked_cluster _ a = None

-- the first of two states that is there
abbrev pub or_later : Option ClusterState → Option ClusterState → Option ClusterState
or_later (Some c) later = Some c
or_later None later = later

-- the first state of the cluster that was answered
abbrev pub first_cluster : List Exchange → Option ClusterState
first_cluster [] = None
first_cluster (e ∷ h) = or_later (first_cluster h) (asked_cluster e.asked e.answer)

-- the seconds after one more exchange
abbrev pub waited_more : Question → ℕ → ℕ
waited_more (questions.Wait seconds) n = n + seconds
waited_more (questions.Store mark) n = 0
waited_more _ n = n

-- the seconds of the waits since the last store
abbrev pub waited : List Exchange → ℕ
waited [] = 0
waited (e ∷ h) = waited_more e.asked (waited h)

-- the answer says that all is in place
abbrev pub is_in_place : HostAnswer → Bool
is_in_place (answers.InPlace is) = is
is_in_place _ = false

-- a look counts on, or begins the count anew
abbrev pub looks_after : Bool → ℕ → ℕ
looks_after true n = n + 1
looks_after false n = 0

-- the count after one more exchange
abbrev pub looks_more : Question → HostAnswer → ℕ → ℕ
looks_more questions.Roots a n = looks_after (is_in_place a) n
looks_more (questions.Store mark) a n = 0
looks_more (questions.Set i pin) a n = 0
looks_more _ a n = n

-- how many looks in a row, up to the last one, found all in place, with no pin set and nothing stored in between
abbrev pub looks_in_place : List Exchange → ℕ
looks_in_place [] = 0
looks_in_place (e ∷ h) = looks_more e.asked e.answer (looks_in_place h)

-- the mark of a text that was answered as stored
abbrev pub stored_mark : Question → HostAnswer → Option Mark → Option Mark
stored_mark (questions.Store mark) answers.Stored last = Some mark
stored_mark _ a last = last

-- the mark of the text that was stored last
abbrev pub last_stored : List Exchange → Option Mark
last_stored [] = None
last_stored (e ∷ h) = stored_mark e.asked e.answer (last_stored h)

-- the text with this mark may be the one that is stored: an answer that does not say so leaves it open
abbrev pub MayStand : Question → HostAnswer → Mark → Type 0 → Type 0
MayStand (questions.Store asked) answers.Stored mark before = mark ≡ asked
MayStand (questions.Store asked) a mark before = (mark ≡ asked) ⊎ before
MayStand _ a mark before = before

-- the text with this mark may be the one that is stored after these exchanges, which began from the text with the
-- first
abbrev pub MayBeStored : Mark → List Exchange → Mark → Type 0
MayBeStored first [] mark = mark ≡ first
MayBeStored first (e ∷ h) mark = MayStand e.asked e.answer mark (MayBeStored first h mark)

-- the list is the places below `from`, down to `to`
abbrev pub Descends : ℕ → ℕ → List ℕ → Type 0
Descends from to [] = from ≡ to
Descends from to (place ∷ places) = (from ≡ suc place) × Descends place to places

-- the list is the places from `from` up to below `to`
abbrev pub Ascends : ℕ → ℕ → List ℕ → Type 0
Ascends from to [] = from ≡ to
Ascends from to (place ∷ places) = (from ≡ place) × Ascends (suc place) to places

-- the place is in the list
abbrev pub HasPlace : ℕ → List ℕ → Type 0
HasPlace i [] = ⊥
HasPlace i (place ∷ places) = (place ≡ i) ⊎ HasPlace i places

-- a question sets the pin of the change at this place
abbrev pub IsSetAt : Question → ℕ → Type 0
IsSetAt (questions.Set place pin) i = place ≡ i
IsSetAt _ i = ⊥

-- it was asked to set the pin of the change at this place
abbrev pub WasSet : List Exchange → ℕ → Type 0
WasSet [] i = ⊥
WasSet (e ∷ h) i = IsSetAt e.asked i ⊎ WasSet h i

-- what was asked first, where this is asked now
abbrev pub first_asked : Question → List Exchange → Question
first_asked now [] = now
first_asked now (e ∷ h) = first_asked e.asked h

-- the last question was for the state of the cluster
abbrev pub IsClusterLast : List Exchange → Type 0
IsClusterLast [] = ⊥
IsClusterLast (e ∷ h) = e.asked ≡ questions.Cluster

-- what was wrong with the last answer, where `judge` says what is wrong with a directory
abbrev pub trouble_after : (ℕ → FoundPin → Option Trouble) → Task → List Exchange → Exchange → Option Trouble
trouble_after judge x h e = trouble judge (first_cluster h) (x.pace.longest_wait - waited h) e.asked e.answer

-- there was no trouble
abbrev pub IsCalm : (ℕ → FoundPin → Option Trouble) → Task → List Exchange → Type 0
IsCalm judge x [] = Unit {0}
IsCalm judge x (e ∷ h) = (trouble_after judge x h e ≡ None) × IsCalm judge x h
