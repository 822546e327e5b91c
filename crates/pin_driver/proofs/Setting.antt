-- A setter and its exchanges, one answer after the other.
use Rattle.std.proofs.Common.{◌≡◌, ℕ, ◌<◌, true, false, Option, Some, None, List, [], ◌∷◌, length, refl, sym, ap, ◌∙◌, subst, inl, arith}
use Rattle.pin_driver.specs.Driven.{IsRightQuestion, AreRightQuestions, IsTextOf, IsDriven, IsMark}
use Rattle.pin_driver.specs.Exchanges.{Exchange, first_asked, MayBeStored}
use Rattle.pin_driver.specs.Setting.{setter_after, setter_question, setter_run, setter_start, setter_trouble}
use Rattle.pin_driver.specs.Setting.{question_in, advanced, after_verdict, with_exchange, has_ended}
use Rattle.pin_driver.specs.Troubles.{trouble, unlike_plan}
use Rattle.pin_driver.specs.declared.answer.HostAnswer.{HostAnswer}
use Rattle.pin_driver.specs.declared.question.Ending.TheVariants.{Stopped}
use Rattle.pin_driver.specs.declared.question.Mark.{Mark}
use Rattle.pin_driver.specs.declared.question.Question.{Question}
use Rattle.pin_driver.specs.declared.question.Question.TheVariants as questions
use Rattle.pin_driver.specs.declared.question.Trouble.{Trouble}
use Rattle.pin_driver.specs.declared.setter_state.SetterPhase.{SetterPhase}
use Rattle.pin_driver.specs.declared.setter_state.SetterPhase.TheVariants as phases
use Rattle.pin_driver.specs.declared.setter_state.SetterState.{SetterState}
use Rattle.pin_driver.specs.declared.task.Task.{Task}
use Rattle.pin_driver.proofs.Kept.{tells, told, next_named}
use Rattle.pin_driver.proofs.SetterSteps.{InPhase, Is, Live, asks, checks, closes, gets, kept_on, looks, next, notes, opens, pauses, rests, same_trouble, sets}

-- a setter after an answer that is no trouble
goes_on : (p : SetterPhase) (x : Task) (s : SetterState) (h : List Exchange) (a : HostAnswer) → s.phase ≡ p → InPhase p x s h →
    trouble (unlike_plan x) s.cluster s.left (question_in p x s) a ≡ None →
    Is x (advanced p x s a) (with_exchange (has_ended p) (record { asked = question_in p x s; answer = a }) h)
goes_on phases.Resting x s h a e i none = rests x s h a i (kept_on phases.Resting x s h a refl i none)
goes_on phases.Opening x s h a e i none = opens x s h a i none (kept_on phases.Opening x s h a refl i none)
goes_on phases.Noting x s h a e i none = notes x s h a i none (kept_on phases.Noting x s h a refl i none)
goes_on phases.Checking x s h a e i none = checks x s h a i (kept_on phases.Checking x s h a refl i none)
goes_on phases.Getting x s h a e i none = gets x s h a i none (kept_on phases.Getting x s h a refl i none)
goes_on phases.Setting x s h a e i none = sets x s h a i none (kept_on phases.Setting x s h a refl i none)
goes_on phases.Looking x s h a e i none = looks x s h a i (kept_on phases.Looking x s h a refl i none)
goes_on phases.Pausing x s h a e i none = pauses x s h a i (kept_on phases.Pausing x s h a refl i none)
goes_on phases.Closing x s h a e i none = closes x s h a i none (kept_on phases.Closing x s h a refl i none)
goes_on (phases.Ended ending) x s h a e i none = subst (λ (p : SetterPhase). InPhase p x s h) (sym e) i

-- a setter after a trouble
stops_on : (p : SetterPhase) (x : Task) (s : SetterState) (h : List Exchange) (a : HostAnswer) (t : Trouble) → has_ended p ≡ false →
    InPhase p x s h → trouble (unlike_plan x) s.cluster s.left (question_in p x s) a ≡ Some t →
    Is x (record s { phase = phases.Ended (Stopped t) }) (next (question_in p x s) a h)
stops_on p x s h a t e i some =
    let asked : Live x s h × IsRightQuestion x (question_in p x s) h = asks p x s h e i in
    (tells x (question_in p x s) a h asked.0.kept asked.1, same_trouble x s h (question_in p x s) a asked.0 ∙ some)

stops : (p : SetterPhase) (x : Task) (s : SetterState) (h : List Exchange) (a : HostAnswer) (t : Trouble) → InPhase p x s h →
    trouble (unlike_plan x) s.cluster s.left (question_in p x s) a ≡ Some t →
    Is x (record s { phase = phases.Ended (Stopped t) }) (with_exchange (has_ended p) (record { asked = question_in p x s; answer = a }) h)
stops phases.Resting x s h a t i some = stops_on phases.Resting x s h a t refl i some
stops phases.Opening x s h a t i some = stops_on phases.Opening x s h a t refl i some
stops phases.Noting x s h a t i some = stops_on phases.Noting x s h a t refl i some
stops phases.Checking x s h a t i some = stops_on phases.Checking x s h a t refl i some
stops phases.Getting x s h a t i some = stops_on phases.Getting x s h a t refl i some
stops phases.Setting x s h a t i some = stops_on phases.Setting x s h a t refl i some
stops phases.Looking x s h a t i some = stops_on phases.Looking x s h a t refl i some
stops phases.Pausing x s h a t i some = stops_on phases.Pausing x s h a t refl i some
stops phases.Closing x s h a t i some = stops_on phases.Closing x s h a t refl i some
stops (phases.Ended ending) x s h a t i some = absurd cc

-- a setter after an answer
one_step : (x : Task) (s : SetterState) (h : List Exchange) (a : HostAnswer) (v : Option Trouble) → setter_trouble x s a ≡ v → Is x s h →
    Is x (after_verdict v x s a) (with_exchange (has_ended s.phase) (record { asked = setter_question x s; answer = a }) h)
one_step x s h a None e i = goes_on s.phase x s h a refl i e
one_step x s h a (Some t) e i = stops s.phase x s h a t i e

runs : (x : Task) (s : SetterState) (h : List Exchange) (more : List HostAnswer) → Is x s h →
    Is x (setter_run x s h more).0 (setter_run x s h more).1
runs x s h [] i = i
runs x s h (a ∷ more) i =
    runs x (setter_after x s a) (with_exchange (has_ended s.phase) (record { asked = setter_question x s; answer = a }) h) more
    (one_step x s h a (setter_trouble x s a) refl i)

-- an end stays
stays_in : (p : SetterPhase) (x : Task) (s : SetterState) (a : HostAnswer) → has_ended p ≡ true →
    (trouble (unlike_plan x) s.cluster s.left (question_in p x s) a ≡ None) × (advanced p x s a ≡ s)
stays_in phases.Resting x s a e = absurd cc
stays_in phases.Opening x s a e = absurd cc
stays_in phases.Noting x s a e = absurd cc
stays_in phases.Checking x s a e = absurd cc
stays_in phases.Getting x s a e = absurd cc
stays_in phases.Setting x s a e = absurd cc
stays_in phases.Looking x s a e = absurd cc
stays_in phases.Pausing x s a e = absurd cc
stays_in phases.Closing x s a e = absurd cc
stays_in (phases.Ended ending) x s a e = (refl, refl)

pub setter_stays : (x : Task) (s : SetterState) (a : HostAnswer) → has_ended s.phase ≡ true → setter_after x s a ≡ s
setter_stays x s a e =
    let none : setter_trouble x s a ≡ None = (stays_in s.phase x s a e).0 in
    ap (λ (v : Option Trouble). after_verdict v x s a) none ∙ (stays_in s.phase x s a e).1

-- what was asked first
first_one : (p : SetterPhase) (x : Task) (s : SetterState) (h : List Exchange) (a : HostAnswer) → s.phase ≡ p →
    first_asked (setter_question x (setter_after x s a)) (with_exchange (has_ended p) (record { asked = setter_question x s; answer = a }) h)
    ≡ first_asked (setter_question x s) h
first_one phases.Resting x s h a e = refl
first_one phases.Opening x s h a e = refl
first_one phases.Noting x s h a e = refl
first_one phases.Checking x s h a e = refl
first_one phases.Getting x s h a e = refl
first_one phases.Setting x s h a e = refl
first_one phases.Looking x s h a e = refl
first_one phases.Pausing x s h a e = refl
first_one phases.Closing x s h a e = refl
first_one (phases.Ended ending) x s h a e =
    ap (λ (t : SetterState). first_asked (setter_question x t) h) (setter_stays x s a (ap has_ended e))

first_run : (x : Task) (s : SetterState) (h : List Exchange) (more : List HostAnswer) →
    first_asked (setter_question x (setter_run x s h more).0) (setter_run x s h more).1 ≡ first_asked (setter_question x s) h
first_run x s h [] = refl
first_run x s h (a ∷ more) =
    first_run x (setter_after x s a) (with_exchange (has_ended s.phase) (record { asked = setter_question x s; answer = a }) h) more
    ∙ first_one s.phase x s h a refl

-- what is asked
pub record Drives (x : Task) (h : List Exchange) (q : Question) : Type 0 where
  pub right : AreRightQuestions x h
  pub next : IsRightQuestion x q h
  pub texts : (mark : Mark) → MayBeStored x.first h mark → IsTextOf x h mark
  pub next_named : (mark : Mark) (i : ℕ) (pin : Option ℕ) → MayBeStored x.first h mark → q ≡ questions.Set i pin → i < mark.begun

drives_live : (p : SetterPhase) (x : Task) (s : SetterState) (h : List Exchange) → has_ended p ≡ false → InPhase p x s h →
    Drives x h (question_in p x s)
drives_live p x s h e i =
    let asked : Live x s h × IsRightQuestion x (question_in p x s) h = asks p x s h e i in
    record {
      right = asked.0.kept.right;
      next = asked.1;
      texts = (told x h asked.0.kept).texts;
      next_named = λ mark k pin m is. next_named x (question_in p x s) h mark k pin asked.0.kept asked.1 m is;
    }

drives_in : (p : SetterPhase) (x : Task) (s : SetterState) (h : List Exchange) → InPhase p x s h → Drives x h (question_in p x s)
drives_in phases.Resting x s h i = drives_live phases.Resting x s h refl i
drives_in phases.Opening x s h i = drives_live phases.Opening x s h refl i
drives_in phases.Noting x s h i = drives_live phases.Noting x s h refl i
drives_in phases.Checking x s h i = drives_live phases.Checking x s h refl i
drives_in phases.Getting x s h i = drives_live phases.Getting x s h refl i
drives_in phases.Setting x s h i = drives_live phases.Setting x s h refl i
drives_in phases.Looking x s h i = drives_live phases.Looking x s h refl i
drives_in phases.Pausing x s h i = drives_live phases.Pausing x s h refl i
drives_in phases.Closing x s h i = drives_live phases.Closing x s h refl i
drives_in (phases.Ended ending) x s h i =
    record { right = i.0.right; next = i.1; texts = i.0.texts; next_named = λ mark k pin m e. absurd cc }

starts : (x : Task) → IsMark x.first (length x.plan.changes) → Is x (setter_start x) []
starts x mark = (
  record {
    kept = record {
      right = tt;
      calm = tt;
      text = record { sound = mark; grown = omega arith; ours = λ i w. absurd w; sure = λ i lt. inl lt };
    };
    cluster = refl;
    left = grind arith;
    looks = refl;
    order = refl;
    begun = omega arith;
    sound = mark;
    at = mark.certain;
    fresh = λ _. refl;
  },
  record { mark = refl; stored = refl; looks = refl; unknown = refl },
)

pub drives : (x : Task) (more : List HostAnswer) → IsMark x.first (length x.plan.changes) →
    IsDriven x (setter_run x (setter_start x) [] more).1 (setter_question x (setter_run x (setter_start x) [] more).0)
drives x more mark =
    let end : SetterState × List Exchange = setter_run x (setter_start x) [] more in
    let all : Drives x end.1 (setter_question x end.0) =
    drives_in end.0.phase x end.0 end.1 (runs x (setter_start x) [] more (starts x mark)) in
    record {
      right = all.right;
      next = all.next;
      texts = all.texts;
      next_named = all.next_named;
      rests = first_run x (setter_start x) [] more;
    }
