-- A run, exchange by exchange.
use Rattle.std.proofs.Common.{
  ◌≡◌,
  ◌∙◌,
  ℕ,
  Bool,
  true,
  false,
  ◌||◌,
  List,
  [],
  ◌∷◌,
  ◌++◌,
  length,
  Option,
  Some,
  None,
  refl,
  sym,
  ap,
  subst,
  append_assoc,
  append-nil,
}
use Rattle.std.specs.Io.KnownBytes.{Appends, Consumes}
use Rattle.std.proofs.KnownBytes.{Appends-nil, Appends-trans}
use Rattle.script_engine.specs.Known.{AppendsFront}
use Rattle.pin_driver.specs.Driven.{IsDriven, IsMark}
use Rattle.pin_driver.specs.Exchanges.{Exchange}
use Rattle.pin_driver.specs.Restored.{IsRestored}
use Rattle.pin_driver.specs.Sessions.{IsRightRun, exchanges_of, restorer_asks, restorer_exchanges, setter_asks, setter_exchanges}
use Rattle.pin_driver.specs.declared.answer.HostAnswer.{HostAnswer}
use Rattle.pin_driver.specs.declared.question.Ending.{Ending}
use Rattle.pin_driver.specs.declared.question.Question.{Question}
use Rattle.pin_driver.specs.declared.task.Task.{Task}
use Rattle.drive_lines.specs.Dialogue.{AreHeard, GivesAnswer, IsCutRun, IsWholeRun, told_text}
use Rattle.drive_lines.specs.Machines.{IsAfter, any_set, ending_of, is_set_question, machine_task, run_asks, run_note}
use Rattle.drive_lines.specs.Questions.{note_text, question_text}
use Rattle.drive_lines.specs.declared.machine.PinMachine.{PinMachine}
use Rattle.drive_lines.specs.declared.machine.PinMachine.TheVariants.{Setter, Restorer}
use Rattle.drive_lines.proofs.Heard.{gives_after}
use Rattle.drive_lines.proofs.Runs.{ended_so, one_exchange}

-- a run that goes on: the machine is the one after these answers, and what was read and written is theirs
pub record IsGoing (known : Option (List ℕ)) (way : Bool) (x : Task) (machine : PinMachine) (was_set : Bool)
    (before after : Option (List ℕ)) (bytes : List ℕ) (more : List HostAnswer) : Type 0 where
  pub machine_is : IsAfter way x more machine
  pub heard : AreHeard known (exchanges_of way x more) bytes
  pub told : Appends before after (told_text way x (exchanges_of way x more))
  pub set_is : was_set ≡ any_set (exchanges_of way x more)

front_after : (old mid new : Option (List ℕ)) (a b : List ℕ) → Appends old mid a → AppendsFront mid new b → AppendsFront old new (a ++ b)
front_after old mid new a b whole part = (
  a ++ part.0,
  part.1,
  ap (λ (t : List ℕ). a ++ t) part.2 ∙ sym (append_assoc a part.0 part.1),
  Appends-trans
      old mid new a part.0 whole part.3,
)

front_wider : (old new : Option (List ℕ)) (a b : List ℕ) → AppendsFront old new a → AppendsFront old new (a ++ b)
front_wider old new a b part = (part.0, part.1 ++ b, ap (λ (t : List ℕ). t ++ b) part.2 ∙ append_assoc part.0 part.1 b, part.3)

front_whole : (old new : Option (List ℕ)) (a : List ℕ) → Appends old new a → AppendsFront old new a
front_whole old new a whole = (a, [], sym (append-nil a), whole)

module _ (known : Option (List ℕ)) (way : Bool) (x : Task) (before : Option (List ℕ)) (right : (more : List HostAnswer) → IsRightRun way x more) where
  module _ (machine : PinMachine) (was_set : Bool) (after : Option (List ℕ)) (bytes : List ℕ) (more : List HostAnswer)
      (going : IsGoing known way x machine was_set before after bytes more) where
    -- the question was not written whole
    pub cut_question : (now : Option (List ℕ)) (q : Question) → q ≡ run_asks way x more → AppendsFront after now (question_text x.plan q) → IsCutRun
        known way x before now bytes more
    cut_question now q is part = record {
      front = bytes;
      rest = [];
      split = sym (append-nil bytes);
      heard = going.heard;
      told = front_after before after now (told_text way x (exchanges_of way x more)) (question_text x.plan (run_asks way x more)) going.told
          (subst (λ (q : Question). AppendsFront after now (question_text x.plan q)) is part);
      right = right more;
    }

    -- no answer was read
    pub cut_answer : (now : Option (List ℕ)) (q : Question) (tail : List ℕ) → q ≡ run_asks way x more → Appends after now (question_text x.plan q) →
        IsCutRun known way x before now (bytes ++ tail) more
    cut_answer now q tail is whole = record {
      front = bytes;
      rest = tail;
      split = refl;
      heard = going.heard;
      told = front_after before after now (told_text way x (exchanges_of way x more)) (question_text x.plan (run_asks way x more)) going.told
          (subst (λ (q : Question). AppendsFront after now (question_text x.plan q)) is (front_whole after now (question_text x.plan q) whole));
      right = right more;
    }

    -- the run is at its end
    pub run_ends : (now : Option (List ℕ)) (q : Question) (e : Ending) → q ≡ run_asks way x more → ending_of q ≡ Some e → Appends after now
        (question_text x.plan q) →
        IsWholeRun known way x (record { ending = e; was_set = was_set }) before now bytes more
    run_ends now q e is ends whole = record {
      heard = going.heard;
      told = Appends-trans before after now (told_text way x (exchanges_of way x more)) (question_text x.plan (run_asks way x more)) going.told
          (subst (λ (q : Question). Appends after now (question_text x.plan q)) is whole);
      ended = sym is ∙ ended_so q e ends;
      was_set = going.set_is;
      right = right more;
    }

    module _ (q : Question) (is : q ≡ run_asks way x more) (on : ending_of q ≡ None) (a : HostAnswer) (mid : Option (List ℕ))
        (asked : Appends after mid (question_text x.plan q))
        (left : Option (List ℕ)) (took : Consumes known left bytes) (piece : List ℕ) (gives : GivesAnswer left [] piece a) where
      abbrev grown : List Exchange
      grown = record { asked = run_asks way x more; answer = a } ∷ exchanges_of way x more

      grows : exchanges_of way x (more ++ a ∷ []) ≡ grown
      grows = one_exchange way x more a (subst (λ (q : Question). ending_of q ≡ None) is on)

      heard_more : AreHeard known (exchanges_of way x (more ++ a ∷ [])) (bytes ++ piece)
      heard_more = subst (λ (h : List Exchange). AreHeard known h (bytes ++ piece)) (sym grows)
          (bytes, piece, refl, gives_after known left bytes piece a took gives, going.heard)

      asked_so : Appends after mid (question_text x.plan (run_asks way x more))
      asked_so = subst (λ (q : Question). Appends after mid (question_text x.plan q)) is asked

      -- what became of a change was not written whole
      pub cut_note : (now : Option (List ℕ)) → AppendsFront mid now (note_text x.plan (run_note way x (run_asks way x more) a)) → IsCutRun known way x
          before now (bytes ++ piece) (more ++ a ∷ [])
      cut_note now part = record {
        front = bytes ++ piece;
        rest = [];
        split = sym (append-nil (bytes ++ piece));
        heard = heard_more;
        told = front_wider before now (told_text way x (exchanges_of way x (more ++ a ∷ []))) (question_text x.plan (run_asks way x (more ++ a ∷ [])))
            (subst (λ (h : List Exchange). AppendsFront before now (told_text way x h)) (sym grows)
            (front_after before after now (told_text way x (exchanges_of way x more))
            (question_text x.plan (run_asks way x more) ++ note_text x.plan (run_note way x (run_asks way x more) a)) going.told
            (front_after after mid now (question_text x.plan (run_asks way x more)) (note_text x.plan (run_note way x (run_asks way x more) a))
            asked_so part)));
        right = right (more ++ a ∷ []);
      }

      -- the run goes on
      pub goes_on : (next : PinMachine) (now : Option (List ℕ)) → IsAfter way x (more ++ a ∷ []) next → Appends mid now
          (note_text x.plan (run_note way x (run_asks way x more) a)) →
          IsGoing known way x next (was_set || is_set_question q) before now (bytes ++ piece) (more ++ a ∷ [])
      goes_on next now machine_so whole = record {
        machine_is = machine_so;
        heard = heard_more;
        told = subst (λ (h : List Exchange). Appends before now (told_text way x h)) (sym grows)
            (Appends-trans before after now (told_text way x (exchanges_of way x more))
            (question_text x.plan (run_asks way x more) ++ note_text x.plan (run_note way x (run_asks way x more) a)) going.told
            (Appends-trans after mid now (question_text x.plan (run_asks way x more)) (note_text x.plan (run_note way x (run_asks way x more) a))
            asked_so whole));
        set_is = ap (λ (b : Bool). b || is_set_question q) going.set_is
            ∙ ap (λ (q : Question). any_set (exchanges_of way x more) || is_set_question q) is
            ∙ sym (ap any_set grows);
      }

    -- the run is not over, and is left
    pub cut_late : IsCutRun known way x before after bytes more
    cut_late = record {
      front = bytes;
      rest = [];
      split = sym (append-nil bytes);
      heard = going.heard;
      told = front_wider before after (told_text way x (exchanges_of way x more)) (question_text x.plan (run_asks way x more))
          (front_whole before after (told_text way x (exchanges_of way x more)) going.told);
      right = right more;
    }

-- a machine is one of its task
pub task_is : (way : Bool) (x : Task) (more : List HostAnswer) (machine : PinMachine) → IsAfter way x more machine → machine_task machine ≡ x
task_is false x more (Setter s) is = is.0
task_is true x more (Restorer s) is = is.0
task_is false x more (Restorer s) is = absurd is
task_is true x more (Setter s) is = absurd is

-- a run at its begin
pub begins : (known : Option (List ℕ)) (way : Bool) (x : Task) (machine : PinMachine) (now : Option (List ℕ)) → IsAfter way x [] machine → IsGoing
    known way x machine false now now [] []
begins known false x machine now is = record { machine_is = is; heard = refl; told = Appends-nil now; set_is = refl }
begins known true x machine now is = record { machine_is = is; heard = refl; told = Appends-nil now; set_is = refl }

-- each run asks what is right
pub rights : (way : Bool) (x : Task) → IsMark x.first (length x.plan.changes)
    → ((x : Task) (more : List HostAnswer) → IsMark x.first (length x.plan.changes) → IsDriven x (setter_exchanges x more) (setter_asks x more))
    → ((x : Task) (more : List HostAnswer) → IsRestored x (restorer_exchanges x more) (restorer_asks x more))
    → (more : List HostAnswer) → IsRightRun way x more
rights false x mark driven restored more = driven x more mark
rights true x mark driven restored more = restored x more
