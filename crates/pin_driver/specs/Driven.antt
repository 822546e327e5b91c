-- What holds of all that a setter asks, whatever is answered.
use Rattle.std.specs.Prelude.{◌≡◌, ◌⊎◌, ℕ, ◌<◌, ◌≤◌, max, List, [], ◌∷◌, length, slice_get, Option, Some, None, IfSome}
use Rattle.pin_driver.specs.Exchanges.{Exchange, trouble_after, last_stored, looks_in_place, Descends, HasPlace}
use Rattle.pin_driver.specs.Exchanges.{IsCalm, IsClusterLast, first_asked, MayBeStored, WasSet}
use Rattle.pin_driver.specs.Notes.{setter_note, with_place}
use Rattle.pin_driver.specs.Setting.{batch_end}
use Rattle.pin_driver.specs.Troubles.{unlike_plan}
use Rattle.pin_driver.specs.declared.answer.FoundPin.{FoundPin}
use Rattle.pin_driver.specs.declared.answer.HostAnswer.{HostAnswer}
use Rattle.pin_driver.specs.declared.answer.HostAnswer.TheVariants as answers
use Rattle.pin_driver.specs.declared.plan.PlannedChange.{PlannedChange}
use Rattle.pin_driver.specs.declared.question.Ending.{Ending}
use Rattle.pin_driver.specs.declared.question.Ending.TheVariants.{Done, Stopped}
use Rattle.pin_driver.specs.declared.question.Mark.{Mark}
use Rattle.pin_driver.specs.declared.question.Question.{Question}
use Rattle.pin_driver.specs.declared.question.Question.TheVariants as questions
use Rattle.pin_driver.specs.declared.question.Trouble.{Trouble}
use Rattle.pin_driver.specs.declared.task.Task.{Task}
use Rattle.pin_driver.specs.declared.task.TheConstants.{LOOKS, REST_SECONDS}

-- the mark is one of a plan with this many changes
pub record IsMark (mark : Mark) (changes : ℕ) : Type 0 where
  pub begun : mark.begun ≤ changes
  pub certain : mark.certain ≤ mark.begun

-- with the place of the change in front, where the exchange settles one
abbrev pub settled_more : Question → HostAnswer → List ℕ → List ℕ
settled_more q a places = with_place (setter_note q a) places

-- the changes that were set, or passed over as their directory is gone, the last one first
abbrev pub settled_places : List Exchange → List ℕ
settled_places [] = []
settled_places (e ∷ h) = settled_more e.asked e.answer (settled_places h)

-- the directory is the one of the change, and has the pin of before it; where a run that ended may have made the change
-- already, it may have the pin of after it
pub record IsAsPlanned (x : Task) (i : ℕ) (change : PlannedChange) (found : FoundPin) : Type 0 where
  pub inode : IfSome change.inode (λ inode. found.inode ≡ inode)
  pub pin : (found.pin ≡ change.before) ⊎ ((i < x.first.begun) × (found.pin ≡ change.after))

-- the last exchange asked for the directory of this change, which was found as planned, and the one before for the
-- state of the cluster
abbrev pub IsLookedAt : Task → ℕ → PlannedChange → List Exchange → Type 0
IsLookedAt x i change [] = ⊥
IsLookedAt x i change (e ∷ h) =
    (e.asked ≡ questions.Get i) × ((found : FoundPin) × (e.answer ≡ answers.Found found) × IsAsPlanned x i change found)
    × IsClusterLast h

-- a set that is asked after these exchanges: it is the next change of the plan, after all those before it are settled;
-- the text that is stored names it; its directory was looked at just before; and there was no trouble
pub record IsRightSet (x : Task) (i : ℕ) (pin : Option ℕ) (change : PlannedChange) (h : List Exchange) : Type 0 where
  pub planned : slice_get x.plan.changes i ≡ Some change
  pub pin_of_plan : pin ≡ change.after
  pub uncertain : x.first.certain ≤ i
  pub order : Descends i x.first.certain (settled_places h)
  pub rises : (j : ℕ) → WasSet h j → j < i
  pub stored : (mark : Mark) × (last_stored h ≡ Some mark) × (i < mark.begun)
  pub checked : IsLookedAt x i change h
  pub calm : IsCalm (unlike_plan x) x h

-- the mark that is stored, which at first is the one that the run begins with
abbrev pub standing_mark : Mark → Option Mark → Mark
standing_mark first None = first
standing_mark first (Some mark) = mark

-- the changes below this place are settled, and after them looks found all in place
pub record AreInPlace (x : Task) (place : ℕ) (h : List Exchange) : Type 0 where
  pub order : Descends place x.first.certain (settled_places h)
  pub looks : LOOKS ≤ looks_in_place h

-- a text that is to be stored after these exchanges: it names no fewer changes than the one that is stored, and beyond
-- those no more than one batch; it says of no change that it is certain without looks that found all in place
pub record IsRightStore (x : Task) (mark : Mark) (h : List Exchange) : Type 0 where
  pub grows : (standing_mark x.first (last_stored h)).begun ≤ mark.begun
  pub batch : mark.begun ≤ max (standing_mark x.first (last_stored h)).begun (batch_end x mark.certain)
  pub sound : IsMark mark (length x.plan.changes)
  pub certain : (mark.certain ≡ (standing_mark x.first (last_stored h)).certain) ⊎ AreInPlace x mark.certain h
  pub calm : IsCalm (unlike_plan x) x h

-- the last exchange stored the text that says so: each change is settled, and looks found all in place
abbrev pub IsAllDone : Task → List Exchange → Type 0
IsAllDone x [] = ⊥
IsAllDone x (e ∷ h) =
    (e.asked ≡ questions.Store (record { begun = length x.plan.changes; certain = length x.plan.changes }))
    × (e.answer ≡ answers.Stored) × AreInPlace x (length x.plan.changes) h

-- the last exchange was this trouble
abbrev pub HasTrouble : Task → List Exchange → Trouble → Type 0
HasTrouble x [] t = ⊥
HasTrouble x (e ∷ h) t = trouble_after (unlike_plan x) x h e ≡ Some t

-- a driver ends where all is done, or in a trouble
abbrev pub IsRightEnd : Task → Ending → List Exchange → Type 0
IsRightEnd x Done h = IsAllDone x h
IsRightEnd x (Stopped t) h = HasTrouble x h t

-- a question after these exchanges
abbrev pub IsRightQuestion : Task → Question → List Exchange → Type 0
IsRightQuestion x (questions.Set i pin) h = (change : PlannedChange) × IsRightSet x i pin change h
IsRightQuestion x (questions.Store mark) h = IsRightStore x mark h
IsRightQuestion x (questions.End ending) h = IsRightEnd x ending h
IsRightQuestion x questions.Roots h = IsClusterLast h
IsRightQuestion x _ h = Unit {0}

-- each question after the exchanges before it
abbrev pub AreRightQuestions : Task → List Exchange → Type 0
AreRightQuestions x [] = Unit {0}
AreRightQuestions x (e ∷ h) = IsRightQuestion x e.asked h × AreRightQuestions x h

-- a text that may be the one that is stored after these exchanges: it names each change that was set, and all that the
-- text at the begin names
pub record IsTextOf (x : Task) (h : List Exchange) (mark : Mark) : Type 0 where
  pub sound : IsMark mark (length x.plan.changes)
  pub grown : x.first.begun ≤ mark.begun
  pub ours : (i : ℕ) → WasSet h i → i < mark.begun
  -- what it says is certain was so at the begin, or is settled
  pub sure : (i : ℕ) → i < mark.certain → (i < x.first.certain) ⊎ HasPlace i (settled_places h)

-- what holds of the exchanges of a run and of what is asked next
pub record IsDriven (x : Task) (h : List Exchange) (asked : Question) : Type 0 where
  pub right : AreRightQuestions x h
  pub next : IsRightQuestion x asked h
  pub texts : (mark : Mark) → MayBeStored x.first h mark → IsTextOf x h mark
  -- a change that is to be set now is named by the text, too
  pub next_named : (mark : Mark) (i : ℕ) (pin : Option ℕ) → MayBeStored x.first h mark →
      asked ≡ questions.Set i pin → i < mark.begun
  -- it waits before all else, until no pin is read as its old value
  pub rests : first_asked asked h ≡ questions.Wait REST_SECONDS
