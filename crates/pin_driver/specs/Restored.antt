-- What holds of all that a restorer asks, whatever is answered.
use Rattle.std.specs.Prelude.{◌≡◌, ◌⊎◌, ℕ, suc, ◌<◌, ◌≤◌, List, [], ◌∷◌, slice_get, Option, Some, IfSome}
use Rattle.pin_driver.specs.Exchanges.{Exchange, trouble_after, last_stored, Ascends, HasPlace, IsCalm, IsClusterLast}
use Rattle.pin_driver.specs.Exchanges.{first_asked, MayBeStored, WasSet}
use Rattle.pin_driver.specs.Notes.{restorer_note, with_place}
use Rattle.pin_driver.specs.Restoring.{any_directory, doubtful_mark, no_mark}
use Rattle.pin_driver.specs.declared.answer.FoundPin.{FoundPin}
use Rattle.pin_driver.specs.declared.answer.HostAnswer.{HostAnswer}
use Rattle.pin_driver.specs.declared.answer.HostAnswer.TheVariants as answers
use Rattle.pin_driver.specs.declared.plan.PlannedChange.{PlannedChange}
use Rattle.pin_driver.specs.declared.question.Ending.{Ending}
use Rattle.pin_driver.specs.declared.question.Ending.TheVariants.{Done, Stopped}
use Rattle.pin_driver.specs.declared.question.Mark.{Mark}
use Rattle.pin_driver.specs.declared.question.Question.{Question}
use Rattle.pin_driver.specs.declared.question.Question.TheVariants as questions
use Rattle.pin_driver.specs.declared.question.Trouble.{Trouble}
use Rattle.pin_driver.specs.declared.task.Task.{Task}
use Rattle.pin_driver.specs.declared.task.TheConstants.{REST_SECONDS}

-- the directory is the one of the change, with the pin that the change gave it; where it is not certain that the change
-- was made, it may show the pin of before
pub record IsOurDirectory (x : Task) (i : ℕ) (change : PlannedChange) (found : FoundPin) : Type 0 where
  pub inode : IfSome change.inode (λ inode. found.inode ≡ inode)
  pub pin : (found.pin ≡ change.after) ⊎ ((x.first.certain ≤ i) × (found.pin ≡ change.before))

-- with the place of the change in front, where the exchange puts one right
abbrev pub put_right_more : Task → Question → HostAnswer → List ℕ → List ℕ
put_right_more x q a places = with_place (restorer_note x q a) places

-- the changes whose pins were restored, or that were left alone, the last one first
abbrev pub put_right : Task → List Exchange → List ℕ
put_right x [] = []
put_right x (e ∷ h) = put_right_more x e.asked e.answer (put_right x h)

-- the last exchange asked for the directory of this change, which has a pin of ours, and the one before for the state
-- of the cluster
abbrev pub IsFoundOurs : Task → ℕ → PlannedChange → List Exchange → Type 0
IsFoundOurs x i change [] = ⊥
IsFoundOurs x i change (e ∷ h) =
    (e.asked ≡ questions.Get i)
    × ((found : FoundPin) × (e.answer ≡ answers.Found found) × IsOurDirectory x i change found)
    × IsClusterLast h

-- a set that is asked after these exchanges: it gives a begun change's directory its pin of before, after all begun
-- changes behind it are put right; the text that is stored says that nothing is certain; its directory was looked at
-- just before and has a pin of ours; and there was no trouble
pub record IsRightReturn (x : Task) (i : ℕ) (pin : Option ℕ) (change : PlannedChange) (h : List Exchange) : Type 0 where
  pub planned : slice_get x.plan.changes i ≡ Some change
  pub pin_of_plan : pin ≡ change.before
  pub begun : i < x.first.begun
  pub order : Ascends (suc i) x.first.begun (put_right x h)
  pub falls : (j : ℕ) → WasSet h j → i < j
  pub stored : last_stored h ≡ Some (doubtful_mark x.first)
  pub checked : IsFoundOurs x i change h
  pub calm : IsCalm any_directory x h

-- all begun changes are put right
abbrev pub AreAllRight : Task → List Exchange → Type 0
AreAllRight x h = Ascends 0 x.first.begun (put_right x h)

-- a text that is to be stored after these exchanges: all that was begun may be set; or, once all is put right,
-- nothing is begun
pub record IsRightNote (x : Task) (mark : Mark) (h : List Exchange) : Type 0 where
  pub one : (mark ≡ doubtful_mark x.first) ⊎ ((mark ≡ no_mark) × AreAllRight x h)
  pub calm : IsCalm any_directory x h

-- the last exchange stored that nothing is begun, and all was put right before
abbrev pub IsAllReturned : Task → List Exchange → Type 0
IsAllReturned x [] = ⊥
IsAllReturned x (e ∷ h) = (e.asked ≡ questions.Store no_mark) × (e.answer ≡ answers.Stored) × AreAllRight x h

-- the last exchange was this trouble
abbrev pub HasBackTrouble : Task → List Exchange → Trouble → Type 0
HasBackTrouble x [] t = ⊥
HasBackTrouble x (e ∷ h) t = trouble_after any_directory x h e ≡ Some t

-- a restorer ends where all is put right, or in a trouble
abbrev pub IsRightBackEnd : Task → Ending → List Exchange → Type 0
IsRightBackEnd x Done h = IsAllReturned x h
IsRightBackEnd x (Stopped t) h = HasBackTrouble x h t

-- a question after these exchanges
abbrev pub IsRightBackQuestion : Task → Question → List Exchange → Type 0
IsRightBackQuestion x (questions.Set i pin) h = (change : PlannedChange) × IsRightReturn x i pin change h
IsRightBackQuestion x (questions.Store mark) h = IsRightNote x mark h
IsRightBackQuestion x (questions.End ending) h = IsRightBackEnd x ending h
IsRightBackQuestion x _ h = Unit {0}

-- each question after the exchanges before it
abbrev pub AreRightBackQuestions : Task → List Exchange → Type 0
AreRightBackQuestions x [] = Unit {0}
AreRightBackQuestions x (e ∷ h) = IsRightBackQuestion x e.asked h × AreRightBackQuestions x h

-- a text that may be the one that is stored after these exchanges: it names each begun change that is not put right,
-- and says of no change that it is certain unless it is the text of the begin
pub record IsBackText (x : Task) (h : List Exchange) (mark : Mark) : Type 0 where
  pub within : mark.begun ≤ x.first.begun
  pub doubtful : (mark ≡ x.first) ⊎ (mark.certain ≡ 0)
  pub named : (i : ℕ) → i < x.first.begun → HasPlace i (put_right x h) ⊎ (i < mark.begun)
  -- before a pin is restored, it says that nothing is certain
  pub before_sets : (i : ℕ) → WasSet h i → mark.certain ≡ 0

-- what holds of the exchanges of a way back and of what is asked next
pub record IsRestored (x : Task) (h : List Exchange) (asked : Question) : Type 0 where
  pub right : AreRightBackQuestions x h
  pub next : IsRightBackQuestion x asked h
  pub texts : (mark : Mark) → MayBeStored x.first h mark → IsBackText x h mark
  -- it waits before all else, until no pin is read as its old value
  pub rests : first_asked asked h ≡ questions.Wait REST_SECONDS
