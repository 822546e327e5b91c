-- What each exchange keeps.
use Rattle.std.proofs.Common.{[], ◌≡◌, ◌⊎◌, ℕ, ◌<◌, Option, Some, None, List, ◌∷◌, refl, sym, subst, inl, inr, arith}
use Rattle.std.proofs.lemmas.Bool.{cases_lt}
use Rattle.pin_driver.specs.Driven.{IsRightQuestion, AreRightQuestions, IsRightStore, IsRightSet, IsTextOf, standing_mark, settled_places, settled_more}
use Rattle.pin_driver.specs.Exchanges.{Exchange, trouble_after, IsCalm, last_stored, stored_mark, IsSetAt, MayBeStored, MayStand, HasPlace}
use Rattle.pin_driver.specs.Troubles.{unlike_plan}
use Rattle.pin_driver.specs.declared.answer.HostAnswer.{HostAnswer}
use Rattle.pin_driver.specs.declared.answer.HostAnswer.TheVariants as answers
use Rattle.pin_driver.specs.declared.plan.PlannedChange.{PlannedChange}
use Rattle.pin_driver.specs.declared.question.Mark.{Mark}
use Rattle.pin_driver.specs.declared.question.Question.{Question}
use Rattle.pin_driver.specs.declared.question.Question.TheVariants as questions
use Rattle.pin_driver.specs.declared.task.Task.{Task}
use Rattle.pin_driver.specs.Exchanges.{WasSet}
use Rattle.pin_driver.specs.declared.question.Trouble.{Trouble}
use Rattle.pin_driver.specs.declared.answer.FoundPin.{FoundPin}
use Rattle.pin_driver.proofs.Answers.{set_answer, stored_answer}
use Rattle.pin_driver.proofs.Places.{descends_lists}
use Rattle.pin_driver.proofs.Texts.{one_text, may_stand}

-- what holds of exchanges without trouble
pub record Kept (x : Task) (h : List Exchange) : Type 0 where
  pub right : AreRightQuestions x h
  pub calm : IsCalm (unlike_plan x) x h
  pub text : IsTextOf x h (standing_mark x.first (last_stored h))

-- what holds of exchanges whose last one may be a trouble
pub record Told (x : Task) (h : List Exchange) : Type 0 where
  pub right : AreRightQuestions x h
  pub texts : (mark : Mark) → MayBeStored x.first h mark → IsTextOf x h mark

-- a set is one of a change that the stored text names
pub set_named : (x : Task) (h : List Exchange) (i j : ℕ) (pin : Option ℕ) (change : PlannedChange) →
    IsRightSet x j pin change h → j ≡ i → i < (standing_mark x.first (last_stored h)).begun
set_named x h i j pin change right e =
    let was : last_stored h ≡ Some right.stored.0 = right.stored.1 in
    rw was (omega (arith, right.stored.2, e))

-- what is settled stays so
listed_more : (q : Question) (a : HostAnswer) (places : List ℕ) (i : ℕ) → HasPlace i places → HasPlace i (settled_more q a places)
listed_more (questions.Set j pin) answers.Done places i l = inr l
listed_more (questions.Set j pin) answers.Gone places i l = inr l
listed_more (questions.Set j pin) answers.Waited places i l = l
listed_more (questions.Set j pin) (answers.Cluster c) places i l = l
listed_more (questions.Set j pin) answers.Stored places i l = l
listed_more (questions.Set j pin) (answers.Found d) places i l = l
listed_more (questions.Set j pin) (answers.InPlace b) places i l = l
listed_more (questions.Set j pin) answers.Refused places i l = l
listed_more (questions.Set j pin) answers.NoAnswer places i l = l
listed_more (questions.Set j pin) answers.Nonsense places i l = l
listed_more (questions.Get j) answers.Gone places i l = inr l
listed_more (questions.Get j) answers.Waited places i l = l
listed_more (questions.Get j) (answers.Cluster c) places i l = l
listed_more (questions.Get j) answers.Stored places i l = l
listed_more (questions.Get j) (answers.Found d) places i l = l
listed_more (questions.Get j) answers.Done places i l = l
listed_more (questions.Get j) (answers.InPlace b) places i l = l
listed_more (questions.Get j) answers.Refused places i l = l
listed_more (questions.Get j) answers.NoAnswer places i l = l
listed_more (questions.Get j) answers.Nonsense places i l = l
listed_more (questions.Wait n) a places i l = l
listed_more questions.Cluster a places i l = l
listed_more (questions.Store mark) a places i l = l
listed_more questions.Roots a places i l = l
listed_more (questions.End ending) a places i l = l

settles : (q : Question) (a : HostAnswer) (judge : ℕ → FoundPin → Option Trouble) (x : Task) (h : List Exchange) (places : List ℕ) (j : ℕ) → IsSetAt q j →
    trouble_after judge x h (record { asked = q; answer = a }) ≡ None → HasPlace j (settled_more q a places)
settles (questions.Set i pin) a judge x h places j e none = elim (set_answer a none) [
  | inl done ↦ subst (λ (b : HostAnswer). HasPlace j (settled_more (questions.Set i pin) b places)) (sym done) (inl e)
  | inr gone ↦ subst (λ (b : HostAnswer). HasPlace j (settled_more (questions.Set i pin) b places)) (sym gone) (inl e)
]
settles (questions.Wait n) a judge x h places j e none = absurd e
settles questions.Cluster a judge x h places j e none = absurd e
settles (questions.Store mark) a judge x h places j e none = absurd e
settles (questions.Get k) a judge x h places j e none = absurd e
settles questions.Roots a judge x h places j e none = absurd e
settles (questions.End ending) a judge x h places j e none = absurd e

-- without a trouble each change that was set is settled
pub set_settled : (x : Task) (h : List Exchange) → IsCalm (unlike_plan x) x h → (j : ℕ) → WasSet h j → HasPlace j (settled_places h)
set_settled x [] calm j w = absurd w
set_settled x (e ∷ h) calm j w = elim w [
  | inl is ↦ settles e.asked e.answer (unlike_plan x) x h (settled_places h) j is calm.0
  | inr was ↦ listed_more e.asked e.answer (settled_places h) j (set_settled x h calm.1 j was)
]

sure_more : (x : Task) (q : Question) (a : HostAnswer) (h : List Exchange) (i : ℕ) → (i < x.first.certain) ⊎ HasPlace i (settled_places h) →
    (i < x.first.certain) ⊎ HasPlace i (settled_places (record { asked = q; answer = a } ∷ h))
sure_more x q a h i sure = elim sure [ inl old ↦ inl old | inr new ↦ inr (listed_more q a (settled_places h) i new) ]

-- what a right store says is certain
sure_store : (x : Task) (mark : Mark) (h : List Exchange) → Kept x h → IsRightStore x mark h → (i : ℕ) → i < mark.certain →
    (i < x.first.certain) ⊎ HasPlace i (settled_places h)
sure_store x mark h kept right i lt = elim right.certain [
  | inl same ↦ kept.text.sure i (omega (arith, lt, same))
  | inr in_place ↦
      elim (cases_lt i x.first.certain) [
        | inl old ↦ inl old
        | inr le ↦ inr (descends_lists mark.certain x.first.certain (settled_places h) in_place.order i lt le)
      ]
]

-- after a question that is no store the same text stands
same_text : (x : Task) (q : Question) (a : HostAnswer) (h : List Exchange) (mark : Mark) →
    IsTextOf x h mark → ((i : ℕ) → IsSetAt q i → i < mark.begun) → IsTextOf x (record { asked = q; answer = a } ∷ h) mark
same_text x q a h mark text named =
    record {
      sound = text.sound;
      grown = text.grown;
      ours = λ i w. elim w [ inl e ↦ named i e | inr was ↦ text.ours i was ];
      sure = λ i lt. sure_more x
          q a h i (text.sure i lt);
    }

-- a text that is stored names what the one before it names
new_text : (x : Task) (mark : Mark) (a : HostAnswer) (h : List Exchange) → Kept x h → IsRightStore x mark h →
    IsTextOf x (record { asked = questions.Store mark; answer = a } ∷ h) mark
new_text x mark a h kept right =
    record {
      sound = right.sound;
      grown = omega (arith, kept.text.grown, right.grows);
      ours = λ i w. elim w [ inl e ↦ absurd e | inr was ↦ omega (arith, kept.text.ours i was, right.grows) ];
      sure = λ i lt. sure_more x (questions.Store mark) a h i (sure_store x mark h kept right i lt);
    }

text_more : (x : Task) (q : Question) (a : HostAnswer) (h : List Exchange) → Kept x h →
    trouble_after (unlike_plan x) x h (record { asked = q; answer = a }) ≡ None → IsRightQuestion x q h →
    IsTextOf x (record { asked = q; answer = a } ∷ h) (standing_mark x.first (stored_mark q a (last_stored h)))
text_more x (questions.Set j pin) a h kept none right =
    same_text x (questions.Set j pin) a h (standing_mark x.first (last_stored h)) kept.text (λ i e. set_named x h i j pin right.0 right.1 e)
text_more x (questions.Store mark) a h kept none right =
    let stored : a ≡ answers.Stored = stored_answer a none in
    subst (λ (b : HostAnswer). IsTextOf x (record { asked = questions.Store mark; answer = a } ∷ h)
    (standing_mark x.first (stored_mark (questions.Store mark) b (last_stored h)))) (sym stored)
    (new_text x mark a h kept right)
text_more x (questions.Wait n) a h kept none right =
    same_text x (questions.Wait n) a h (standing_mark x.first (last_stored h)) kept.text (λ i e. absurd e)
text_more x questions.Cluster a h kept none right =
    same_text x questions.Cluster a h (standing_mark x.first (last_stored h)) kept.text (λ i e. absurd e)
text_more x (questions.Get k) a h kept none right =
    same_text x (questions.Get k) a h (standing_mark x.first (last_stored h)) kept.text (λ i e. absurd e)
text_more x questions.Roots a h kept none right =
    same_text x questions.Roots a h (standing_mark x.first (last_stored h)) kept.text (λ i e. absurd e)
text_more x (questions.End ending) a h kept none right =
    same_text x (questions.End ending) a h (standing_mark x.first (last_stored h)) kept.text (λ i e. absurd e)

pub keeps : (x : Task) (q : Question) (a : HostAnswer) (h : List Exchange) → Kept x h →
    trouble_after (unlike_plan x) x h (record { asked = q; answer = a }) ≡ None → IsRightQuestion x q h →
    Kept x (record { asked = q; answer = a } ∷ h)
keeps x q a h kept none right =
    record { right = (right, kept.right); calm = (none, kept.calm); text = text_more x q a h kept none right }

old_text : (x : Task) (h : List Exchange) (mark : Mark) → Kept x h → MayBeStored x.first h mark → IsTextOf x h mark
old_text x h mark kept m = rw (one_text (unlike_plan x) x h mark kept.calm m) kept.text

-- whatever the answer is, each text that may be stored names each change that was set
texts_more : (x : Task) (q : Question) (a : HostAnswer) (h : List Exchange) → Kept x h → IsRightQuestion x q h →
    (mark : Mark) → MayStand q a mark (MayBeStored x.first h mark) → IsTextOf x (record { asked = q; answer = a } ∷ h) mark
texts_more x (questions.Set j pin) a h kept right mark m =
    same_text x (questions.Set j pin) a h mark (old_text x h mark kept m)
    (λ i e. rw (one_text (unlike_plan x) x h mark kept.calm m) (set_named x h i j pin right.0 right.1 e))
texts_more x (questions.Store asked) a h kept right mark m = elim (may_stand asked mark a (MayBeStored x.first h mark) m) [
  | inl new ↦ rw new (new_text x asked a h kept right)
  | inr old ↦ same_text x (questions.Store asked) a h mark (old_text x h mark kept old) (λ i e. absurd e)
]
texts_more x (questions.Wait n) a h kept right mark m = same_text x (questions.Wait n) a h mark (old_text x h mark kept m) (λ i e. absurd e)
texts_more x questions.Cluster a h kept right mark m = same_text x questions.Cluster a h mark (old_text x h mark kept m) (λ i e. absurd e)
texts_more x (questions.Get k) a h kept right mark m = same_text x (questions.Get k) a h mark (old_text x h mark kept m) (λ i e. absurd e)
texts_more x questions.Roots a h kept right mark m = same_text x questions.Roots a h mark (old_text x h mark kept m) (λ i e. absurd e)
texts_more x (questions.End ending) a h kept right mark m = same_text x (questions.End ending) a h mark (old_text x h mark kept m) (λ i e. absurd e)

pub tells : (x : Task) (q : Question) (a : HostAnswer) (h : List Exchange) → Kept x h → IsRightQuestion x q h →
    Told x (record { asked = q; answer = a } ∷ h)
tells x q a h kept right = record { right = (right, kept.right); texts = texts_more x q a h kept right }

pub told : (x : Task) (h : List Exchange) → Kept x h → Told x h
told x h kept = record { right = kept.right; texts = λ mark m. old_text x h mark kept m }

pub next_named : (x : Task) (q : Question) (h : List Exchange) (mark : Mark) (i : ℕ) (pin : Option ℕ) → Kept x h → IsRightQuestion x q h →
    MayBeStored x.first h mark → q ≡ questions.Set i pin → i < mark.begun
next_named x q h mark i pin kept right m e =
    let set : (change : PlannedChange) × IsRightSet x i pin change h = subst (λ (p : Question). IsRightQuestion x p h) e right in
    rw (one_text (unlike_plan x) x h mark kept.calm m) (set_named x h i i pin set.0 set.1 refl)
