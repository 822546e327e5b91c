-- What each exchange of a way back keeps.
use Rattle.std.proofs.Common.{[], ◌≡◌, ℕ, Bool, true, false, cond, Option, None, List, ◌∷◌, refl, sym, subst, inl, inr, arith}
use Rattle.pin_driver.specs.Driven.{standing_mark}
use Rattle.pin_driver.specs.Exchanges.{Exchange, trouble_after, IsCalm, last_stored, stored_mark, IsSetAt, MayBeStored, MayStand, HasPlace}
use Rattle.pin_driver.specs.Notes.{with_place}
use Rattle.pin_driver.specs.declared.note.Note.TheVariants as notes
use Rattle.pin_driver.specs.Restored.{IsRightBackQuestion, AreRightBackQuestions, IsRightNote, IsRightReturn, IsBackText, put_right, put_right_more}
use Rattle.pin_driver.specs.Restoring.{any_directory, restorable_at}
use Rattle.pin_driver.specs.declared.answer.HostAnswer.{HostAnswer}
use Rattle.pin_driver.specs.declared.answer.HostAnswer.TheVariants as answers
use Rattle.pin_driver.specs.declared.plan.PlannedChange.{PlannedChange}
use Rattle.pin_driver.specs.declared.question.Mark.{Mark}
use Rattle.pin_driver.specs.declared.question.Question.{Question}
use Rattle.pin_driver.specs.declared.question.Question.TheVariants as questions
use Rattle.pin_driver.specs.declared.task.Task.{Task}
use Rattle.pin_driver.specs.Exchanges.{WasSet}
use Rattle.pin_driver.proofs.Answers.{set_answer, stored_answer}
use Rattle.pin_driver.proofs.Places.{ascends_lists}
use Rattle.pin_driver.proofs.Texts.{one_text, may_stand}

-- what holds of exchanges without trouble
pub record KeptBack (x : Task) (h : List Exchange) : Type 0 where
  pub right : AreRightBackQuestions x h
  pub calm : IsCalm any_directory x h
  pub text : IsBackText x h (standing_mark x.first (last_stored h))

-- what holds of exchanges whose last one may be a trouble
pub record ToldBack (x : Task) (h : List Exchange) : Type 0 where
  pub right : AreRightBackQuestions x h
  pub texts : (mark : Mark) → MayBeStored x.first h mark → IsBackText x h mark

-- what is put right stays so
listed_cond : (b : Bool) (i j : ℕ) (places : List ℕ) → HasPlace i places → HasPlace i (with_place (cond b notes.Nothing (notes.LeftAlone j)) places)
listed_cond true i j places l = l
listed_cond false i j places l = inr l

listed_more : (x : Task) (q : Question) (a : HostAnswer) (places : List ℕ) (i : ℕ) → HasPlace i places → HasPlace i (put_right_more x q a places)
listed_more x (questions.Set j pin) answers.Done places i l = inr l
listed_more x (questions.Set j pin) answers.Gone places i l = inr l
listed_more x (questions.Set j pin) answers.Waited places i l = l
listed_more x (questions.Set j pin) (answers.Cluster c) places i l = l
listed_more x (questions.Set j pin) answers.Stored places i l = l
listed_more x (questions.Set j pin) (answers.Found d) places i l = l
listed_more x (questions.Set j pin) (answers.InPlace b) places i l = l
listed_more x (questions.Set j pin) answers.Refused places i l = l
listed_more x (questions.Set j pin) answers.NoAnswer places i l = l
listed_more x (questions.Set j pin) answers.Nonsense places i l = l
listed_more x (questions.Get j) answers.Gone places i l = inr l
listed_more x (questions.Get j) (answers.Found found) places i l = listed_cond (restorable_at x j found) i j places l
listed_more x (questions.Get j) answers.Waited places i l = l
listed_more x (questions.Get j) (answers.Cluster c) places i l = l
listed_more x (questions.Get j) answers.Stored places i l = l
listed_more x (questions.Get j) answers.Done places i l = l
listed_more x (questions.Get j) (answers.InPlace b) places i l = l
listed_more x (questions.Get j) answers.Refused places i l = l
listed_more x (questions.Get j) answers.NoAnswer places i l = l
listed_more x (questions.Get j) answers.Nonsense places i l = l
listed_more x (questions.Wait n) a places i l = l
listed_more x questions.Cluster a places i l = l
listed_more x (questions.Store mark) a places i l = l
listed_more x questions.Roots a places i l = l
listed_more x (questions.End ending) a places i l = l

puts_right : (x : Task) (q : Question) (a : HostAnswer) (h : List Exchange) (places : List ℕ) (j : ℕ) → IsSetAt q j →
    trouble_after any_directory x h (record { asked = q; answer = a }) ≡ None → HasPlace j (put_right_more x q a places)
puts_right x (questions.Set i pin) a h places j e none = elim (set_answer a none) [
  | inl done ↦ subst (λ (b : HostAnswer). HasPlace j (put_right_more x (questions.Set i pin) b places)) (sym done) (inl e)
  | inr gone ↦ subst (λ (b : HostAnswer). HasPlace j (put_right_more x (questions.Set i pin) b places)) (sym gone) (inl e)
]
puts_right x (questions.Wait n) a h places j e none = absurd e
puts_right x questions.Cluster a h places j e none = absurd e
puts_right x (questions.Store mark) a h places j e none = absurd e
puts_right x (questions.Get k) a h places j e none = absurd e
puts_right x questions.Roots a h places j e none = absurd e
puts_right x (questions.End ending) a h places j e none = absurd e

-- without a trouble each change whose pin was set is put right
pub set_right : (x : Task) (h : List Exchange) → IsCalm any_directory x h → (j : ℕ) → WasSet h j → HasPlace j (put_right x h)
set_right x [] calm j w = absurd w
set_right x (e ∷ h) calm j w = elim w [
  | inl is ↦ puts_right x e.asked e.answer h (put_right x h) j is calm.0
  | inr was ↦ listed_more x e.asked e.answer (put_right x h) j (set_right x h calm.1 j was)
]

-- after a question that is no store the same text stands
same_text : (x : Task) (q : Question) (a : HostAnswer) (h : List Exchange) (mark : Mark) →
    IsBackText x h mark → ((i : ℕ) → IsSetAt q i → mark.certain ≡ 0) → IsBackText x (record { asked = q; answer = a } ∷ h) mark
same_text x q a h mark text sets =
    record {
      within = text.within;
      doubtful = text.doubtful;
      named = λ i lt. elim (text.named i lt) [ inl l ↦ inl (listed_more x q a (put_right x h) i l) | inr named ↦ inr named ];
      before_sets = λ i w. elim w [ inl e ↦ sets i e | inr was ↦ text.before_sets i was ];
    }

-- a text that is stored
new_text : (x : Task) (mark : Mark) (a : HostAnswer) (h : List Exchange) → IsRightNote x mark h →
    IsBackText x (record { asked = questions.Store mark; answer = a } ∷ h) mark
new_text x mark a h right = elim right.one [
  | inl doubtful ↦
      rw doubtful (record { within = omega arith; doubtful = inr refl; named = λ i lt. inr lt; before_sets = λ i w. refl })
  | inr none ↦
      rw none.0
      (record {
        within = omega arith;
        doubtful = inr refl;
        named = λ i lt. inl (ascends_lists 0 x.first.begun (put_right x h) none.1 i (omega arith) lt);
        before_sets = λ i w. refl;
      })
]

set_doubtful : (x : Task) (h : List Exchange) (i : ℕ) (pin : Option ℕ) (change : PlannedChange) → IsRightReturn x i pin change h →
    (standing_mark x.first (last_stored h)).certain ≡ 0
set_doubtful x h i pin change right = rw right.stored refl

text_more : (x : Task) (q : Question) (a : HostAnswer) (h : List Exchange) → KeptBack x h →
    trouble_after any_directory x h (record { asked = q; answer = a }) ≡ None → IsRightBackQuestion x q h →
    IsBackText x (record { asked = q; answer = a } ∷ h) (standing_mark x.first (stored_mark q a (last_stored h)))
text_more x (questions.Set j pin) a h kept none right =
    same_text x (questions.Set j pin) a h (standing_mark x.first (last_stored h)) kept.text (λ i e. set_doubtful x h j pin right.0 right.1)
text_more x (questions.Store mark) a h kept none right =
    let stored : a ≡ answers.Stored = stored_answer a none in
    subst (λ (b : HostAnswer). IsBackText x (record { asked = questions.Store mark; answer = a } ∷ h)
    (standing_mark x.first (stored_mark (questions.Store mark) b (last_stored h)))) (sym stored)
    (new_text x mark a h right)
text_more x (questions.Wait n) a h kept none right =
    same_text x (questions.Wait n) a h (standing_mark x.first (last_stored h)) kept.text (λ i e. absurd e)
text_more x questions.Cluster a h kept none right =
    same_text x questions.Cluster a h (standing_mark x.first (last_stored h)) kept.text (λ i e. absurd e)
text_more x (questions.Get k) a h kept none right =
    same_text x (questions.Get k) a h (standing_mark x.first (last_stored h)) kept.text (λ i e. absurd e)
text_more x questions.Roots a h kept none right =
    same_text x questions.Roots a h (standing_mark x.first (last_stored h)) kept.text (λ i e. absurd e)
text_more x (questions.End ending) a h kept none right =
    same_text x (questions.End ending) a h (standing_mark x.first (last_stored h)) kept.text (λ i e. absurd e)

pub keeps_back : (x : Task) (q : Question) (a : HostAnswer) (h : List Exchange) → KeptBack x h →
    trouble_after any_directory x h (record { asked = q; answer = a }) ≡ None → IsRightBackQuestion x q h →
    KeptBack x (record { asked = q; answer = a } ∷ h)
keeps_back x q a h kept none right =
    record { right = (right, kept.right); calm = (none, kept.calm); text = text_more x q a h kept none right }

old_text : (x : Task) (h : List Exchange) (mark : Mark) → KeptBack x h → MayBeStored x.first h mark → IsBackText x h mark
old_text x h mark kept m = rw (one_text any_directory x h mark kept.calm m) kept.text

texts_more : (x : Task) (q : Question) (a : HostAnswer) (h : List Exchange) → KeptBack x h → IsRightBackQuestion x q h →
    (mark : Mark) → MayStand q a mark (MayBeStored x.first h mark) → IsBackText x (record { asked = q; answer = a } ∷ h) mark
texts_more x (questions.Set j pin) a h kept right mark m =
    same_text x (questions.Set j pin) a h mark (old_text x h mark kept m)
    (λ i e. rw (one_text any_directory x h mark kept.calm m) (set_doubtful x h j pin right.0 right.1))
texts_more x (questions.Store asked) a h kept right mark m = elim (may_stand asked mark a (MayBeStored x.first h mark) m) [
  | inl new ↦ rw new (new_text x asked a h right)
  | inr old ↦ same_text x (questions.Store asked) a h mark (old_text x h mark kept old) (λ i e. absurd e)
]
texts_more x (questions.Wait n) a h kept right mark m = same_text x (questions.Wait n) a h mark (old_text x h mark kept m) (λ i e. absurd e)
texts_more x questions.Cluster a h kept right mark m = same_text x questions.Cluster a h mark (old_text x h mark kept m) (λ i e. absurd e)
texts_more x (questions.Get k) a h kept right mark m = same_text x (questions.Get k) a h mark (old_text x h mark kept m) (λ i e. absurd e)
texts_more x questions.Roots a h kept right mark m = same_text x questions.Roots a h mark (old_text x h mark kept m) (λ i e. absurd e)
texts_more x (questions.End ending) a h kept right mark m = same_text x (questions.End ending) a h mark (old_text x h mark kept m) (λ i e. absurd e)

pub tells_back : (x : Task) (q : Question) (a : HostAnswer) (h : List Exchange) → KeptBack x h → IsRightBackQuestion x q h →
    ToldBack x (record { asked = q; answer = a } ∷ h)
tells_back x q a h kept right = record { right = (right, kept.right); texts = texts_more x q a h kept right }

pub told_back : (x : Task) (h : List Exchange) → KeptBack x h → ToldBack x h
told_back x h kept = record { right = kept.right; texts = λ mark m. old_text x h mark kept m }
