-- Which texts may be stored.
use Rattle.std.proofs.Common.{◌≡◌, ◌⊎◌, ℕ, Option, None, List, [], ◌∷◌, inl}
use Rattle.pin_driver.specs.Driven.{standing_mark}
use Rattle.pin_driver.specs.Exchanges.{Exchange, trouble_after, IsCalm, last_stored, stored_mark, MayBeStored, MayStand}
use Rattle.pin_driver.specs.declared.answer.FoundPin.{FoundPin}
use Rattle.pin_driver.specs.declared.answer.HostAnswer.{HostAnswer}
use Rattle.pin_driver.specs.declared.answer.HostAnswer.TheVariants as answers
use Rattle.pin_driver.specs.declared.question.Mark.{Mark}
use Rattle.pin_driver.specs.declared.question.Question.{Question}
use Rattle.pin_driver.specs.declared.question.Question.TheVariants as questions
use Rattle.pin_driver.specs.declared.question.Trouble.{Trouble}
use Rattle.pin_driver.specs.declared.task.Task.{Task}

-- without a trouble one text is stored
one_text_more : (judge : ℕ → FoundPin → Option Trouble) (x : Task) (q : Question) (a : HostAnswer) (h : List Exchange) (mark : Mark) →
    trouble_after judge x h (record { asked = q; answer = a }) ≡ None →
    (MayBeStored x.first h mark → mark ≡ standing_mark x.first (last_stored h)) →
    MayStand q a mark (MayBeStored x.first h mark) → mark ≡ standing_mark x.first (stored_mark q a (last_stored h))
one_text_more judge x (questions.Store asked) answers.Stored h mark none before m = m
one_text_more judge x (questions.Store asked) (answers.Found d) h mark none before m = absurd cc
one_text_more judge x (questions.Store asked) (answers.Cluster c) h mark none before m = absurd cc
one_text_more judge x (questions.Store asked) (answers.InPlace b) h mark none before m = absurd cc
one_text_more judge x (questions.Store asked) answers.Waited h mark none before m = absurd cc
one_text_more judge x (questions.Store asked) answers.Done h mark none before m = absurd cc
one_text_more judge x (questions.Store asked) answers.Gone h mark none before m = absurd cc
one_text_more judge x (questions.Store asked) answers.Refused h mark none before m = absurd cc
one_text_more judge x (questions.Store asked) answers.NoAnswer h mark none before m = absurd cc
one_text_more judge x (questions.Store asked) answers.Nonsense h mark none before m = absurd cc
one_text_more judge x (questions.Wait n) a h mark none before m = before m
one_text_more judge x questions.Cluster a h mark none before m = before m
one_text_more judge x (questions.Get i) a h mark none before m = before m
one_text_more judge x (questions.Set i pin) a h mark none before m = before m
one_text_more judge x questions.Roots a h mark none before m = before m
one_text_more judge x (questions.End ending) a h mark none before m = before m

pub one_text : (judge : ℕ → FoundPin → Option Trouble) (x : Task) (h : List Exchange) (mark : Mark) → IsCalm judge x h → MayBeStored x.first h mark →
    mark ≡ standing_mark x.first (last_stored h)
one_text judge x [] mark calm m = m
one_text judge x (e ∷ h) mark calm m = one_text_more judge x e.asked e.answer h mark calm.0 (one_text judge x h mark calm.1) m

pub may_stand : (asked mark : Mark) (a : HostAnswer) (P : Type 0) → MayStand (questions.Store asked) a mark P → (mark ≡ asked) ⊎ P
may_stand asked mark answers.Stored P m = inl m
may_stand asked mark (answers.Found d) P m = m
may_stand asked mark (answers.Cluster c) P m = m
may_stand asked mark (answers.InPlace b) P m = m
may_stand asked mark answers.Waited P m = m
may_stand asked mark answers.Done P m = m
may_stand asked mark answers.Gone P m = m
may_stand asked mark answers.Refused P m = m
may_stand asked mark answers.NoAnswer P m = m
may_stand asked mark answers.Nonsense P m = m
