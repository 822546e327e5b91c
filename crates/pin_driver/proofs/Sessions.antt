-- Runs of setters and restorers, one after the other.
use Rattle.std.proofs.Common.{ℕ, ◌<◌, Bool, true, false, List, [], ◌∷◌, length, subst, inl, inr, arith}
use Rattle.pin_driver.specs.Driven.{IsMark, IsTextOf}
use Rattle.pin_driver.specs.Exchanges.{Exchange, MayBeStored}
use Rattle.pin_driver.specs.Restored.{IsBackText}
use Rattle.pin_driver.specs.Sessions.{AreAccounted, IsRightRun, AreSessions, IsMadeSure, MayBeLeft, MayBeOurs, OursAfter, SettledAfter, Session}
use Rattle.pin_driver.specs.Sessions.{exchanges_of, restorer_exchanges, session_exchanges, session_task, setter_exchanges}
use Rattle.pin_driver.specs.declared.plan.PinPlan.{PinPlan}
use Rattle.pin_driver.specs.declared.question.Mark.{Mark}
use Rattle.pin_driver.specs.declared.answer.HostAnswer.{HostAnswer}
use Rattle.pin_driver.specs.declared.task.Task.{Task}
use Rattle.pin_driver.proofs.Restoring.{returns}
use Rattle.pin_driver.proofs.Setting.{drives}

back_sound : (x : Task) (h : List Exchange) (mark : Mark) → IsMark x.first (length x.plan.changes) → IsBackText x h mark →
    IsMark mark (length x.plan.changes)
back_sound x h mark sound text = elim text.doubtful [
  | inl same ↦ rw same sound
  | inr none ↦ record { begun = omega (arith, text.within, sound.begun); certain = omega (arith, none) }
]

-- one run more
after_one : (back : Bool) (x : Task) (more : List HostAnswer) (mark : Mark) (Ours Settled : ℕ → Type 0) →
    IsMark x.first (length x.plan.changes) → ((i : ℕ) → Ours i → i < x.first.begun) → ((i : ℕ) → i < x.first.certain → Settled i) →
    MayBeStored x.first (exchanges_of back x more) mark →
    IsMark mark (length x.plan.changes)
    × ((i : ℕ) → OursAfter back x (exchanges_of back x more) i (Ours i) → i < mark.begun)
    × ((i : ℕ) → i < mark.certain → SettledAfter back (exchanges_of back x more) i (Settled i))
after_one false x more mark Ours Settled sound ours certain m =
    let text : IsTextOf x (setter_exchanges x more) mark = (drives x more sound).texts mark m in (
      text.sound,
      λ i w. elim w [ inl set ↦ text.ours i set | inr before ↦ omega (arith, ours i before, text.grown) ],
      λ i lt. elim (text.sure i lt) [ inl old ↦ inr (certain i old) | inr new ↦ inl new ],
    )
after_one true x more mark Ours Settled sound ours certain m =
    let text : IsBackText x (restorer_exchanges x more) mark = (returns x more).texts mark m in (
      back_sound x (restorer_exchanges x more) mark sound text,
      λ i w. elim (text.named i (ours i w.0)) [ inl right ↦ absurd (w.1 right) | inr named ↦ named ],
      λ i lt. (
        elim text.doubtful [
          | inl same ↦ certain i (subst (λ (n : Mark). i < n.certain) same lt)
          | inr none ↦ absurd (omega (arith, lt, none))
        ],
        λ j set. omega (arith, lt, text.before_sets j set),
      ),
    )

right_run : (back : Bool) (x : Task) (more : List HostAnswer) → IsMark x.first (length x.plan.changes) → IsRightRun back x more
right_run true x more sound = returns x more
right_run false x more sound = drives x more sound

pub accounts : (plan : PinPlan) (start : Mark) (sessions : List Session) (mark : Mark) → IsMark start (length plan.changes) →
    AreSessions plan start sessions → MayBeLeft plan start sessions mark → AreAccounted plan start sessions mark
accounts plan start [] mark sound are m =
    rw m (record { runs = tt; sound = sound; ours = λ i lt. lt; certain = λ i lt. lt })
accounts plan start (s ∷ older) mark sound are m =
    let before : AreAccounted plan start older s.first = accounts plan start older s.first sound are.1 are.0 in
    let P : ℕ → Type 0 = λ i. MayBeOurs plan start older i in
    let Q : ℕ → Type 0 = λ i. IsMadeSure plan start older i in
    let after : IsMark mark (length plan.changes)
    × ((i : ℕ) → OursAfter s.way_back (session_task plan s) (session_exchanges plan s) i (P i) → i < mark.begun)
    × ((i : ℕ) → i < mark.certain → SettledAfter s.way_back (session_exchanges plan s) i (Q i)) =
    after_one s.way_back (session_task plan s) s.answers mark P Q before.sound before.ours before.certain m in
    record { runs = (right_run s.way_back (session_task plan s) s.answers before.sound, before.runs); sound = after.0; ours = after.1; certain = after.2 }
