-- A run after one more answer.
use Rattle.std.proofs.Common.{◌≡◌, ◌∙◌, Bool, true, false, List, [], ◌∷◌, ◌++◌, Some, None, refl, sym, ap}
use Rattle.pin_driver.specs.Exchanges.{Exchange}
use Rattle.pin_driver.specs.RestorerParts.{RestorerParts}
use Rattle.pin_driver.specs.Restoring.{restorer_after, restorer_ended, restorer_question, restorer_question_in, restorer_run, restorer_start}
use Rattle.pin_driver.specs.Sessions.{exchanges_of, restorer_asks, restorer_exchanges, setter_asks, setter_exchanges}
use Rattle.pin_driver.specs.SetterParts.{SetterParts}
use Rattle.pin_driver.specs.Setting.{has_ended, question_in, setter_after, setter_question, setter_run, setter_start, with_exchange}
use Rattle.pin_driver.specs.declared.answer.HostAnswer.{HostAnswer}
use Rattle.pin_driver.specs.declared.question.Ending.{Ending}
use Rattle.pin_driver.specs.declared.question.Question.{Question}
use Rattle.pin_driver.specs.declared.question.Question.TheVariants as questions
use Rattle.pin_driver.specs.declared.restorer_state.RestorerPhase.{RestorerPhase}
use Rattle.pin_driver.specs.declared.restorer_state.RestorerPhase.TheVariants as back
use Rattle.pin_driver.specs.declared.restorer_state.RestorerState.{RestorerState}
use Rattle.pin_driver.specs.declared.setter_state.SetterPhase.{SetterPhase}
use Rattle.pin_driver.specs.declared.setter_state.SetterPhase.TheVariants as phases
use Rattle.pin_driver.specs.declared.setter_state.SetterState.{SetterState}
use Rattle.pin_driver.specs.declared.task.Task.{Task}
use Rattle.drive_lines.specs.Machines.{IsAfter, ending_of, run_asks}
use Rattle.drive_lines.specs.declared.machine.PinMachine.TheVariants.{Setter, Restorer}

pub setter_more : (x : Task) (s : SetterState) (h : List Exchange) (more : List HostAnswer) (a : HostAnswer) →
    setter_run x s h (more ++ a ∷ []) ≡ (
      setter_after x (setter_run x s h more).0 a,
      with_exchange (has_ended (setter_run x s h more).0.phase) (record { asked = setter_question x (setter_run x s h more).0; answer = a })
          (setter_run x s h more).1,
    )
setter_more x s h [] a = refl
setter_more x s h (b ∷ more) a =
    setter_more x (setter_after x s b) (with_exchange (has_ended s.phase) (record { asked = setter_question x s; answer = b }) h) more a

pub restorer_more : (x : Task) (s : RestorerState) (h : List Exchange) (more : List HostAnswer) (a : HostAnswer) →
    restorer_run x s h (more ++ a ∷ []) ≡ (
      restorer_after x (restorer_run x s h more).0 a,
      with_exchange (restorer_ended (restorer_run x s h more).0.phase) (record { asked = restorer_question x (restorer_run x s h more).0; answer = a })
          (restorer_run x s h more).1,
    )
restorer_more x s h [] a = refl
restorer_more x s h (b ∷ more) a =
    restorer_more x (restorer_after x s b) (with_exchange (restorer_ended s.phase) (record { asked = restorer_question x s; answer = b }) h) more a

pub setter_answered : (is_back : Bool) (x : Task) (more : List HostAnswer) (s t : SetterParts) (a : HostAnswer) → t.task ≡ s.task → t.state ≡
    setter_after s.task s.state a →
    IsAfter is_back x more (Setter s) → IsAfter is_back x (more ++ a ∷ []) (Setter t)
setter_answered true x more s t a task state is = absurd is
setter_answered false x more s t a task state is = (
  task ∙ is.0,
  state ∙ ap (λ (y : Task). setter_after y s.state a) is.0 ∙ ap (λ (u : SetterState). setter_after x u a) is.1
      ∙ sym (ap (λ (p : SetterState × List Exchange). p.0) (setter_more x (setter_start x) [] more a)),
)

pub restorer_answered : (is_back : Bool) (x : Task) (more : List HostAnswer) (s t : RestorerParts) (a : HostAnswer) → t.task ≡ s.task → t.state ≡
    restorer_after s.task s.state a →
    IsAfter is_back x more (Restorer s) → IsAfter is_back x (more ++ a ∷ []) (Restorer t)
restorer_answered false x more s t a task state is = absurd is
restorer_answered true x more s t a task state is = (
  task ∙ is.0,
  state ∙ ap (λ (y : Task). restorer_after y s.state a) is.0 ∙ ap (λ (u : RestorerState). restorer_after x u a) is.1
      ∙ sym (ap (λ (p : RestorerState × List Exchange). p.0) (restorer_more x (restorer_start x) [] more a)),
)

setter_goes_on : (p : SetterPhase) (x : Task) (s : SetterState) → ending_of (question_in p x s) ≡ None → has_ended p ≡ false
setter_goes_on phases.Resting x s e = refl
setter_goes_on phases.Opening x s e = refl
setter_goes_on phases.Noting x s e = refl
setter_goes_on phases.Checking x s e = refl
setter_goes_on phases.Getting x s e = refl
setter_goes_on phases.Setting x s e = refl
setter_goes_on phases.Looking x s e = refl
setter_goes_on phases.Pausing x s e = refl
setter_goes_on phases.Closing x s e = refl
setter_goes_on (phases.Ended ending) x s e = absurd cc

restorer_goes_on : (p : RestorerPhase) (x : Task) (s : RestorerState) → ending_of (restorer_question_in p x s) ≡ None → restorer_ended p ≡ false
restorer_goes_on back.Resting x s e = refl
restorer_goes_on back.Opening x s e = refl
restorer_goes_on back.Noting x s e = refl
restorer_goes_on back.Checking x s e = refl
restorer_goes_on back.Getting x s e = refl
restorer_goes_on back.Restoring x s e = refl
restorer_goes_on back.Closing x s e = refl
restorer_goes_on (back.Ended ending) x s e = absurd cc

-- where something is asked, its answer makes one more exchange
pub one_exchange : (is_back : Bool) (x : Task) (more : List HostAnswer) (a : HostAnswer) → ending_of (run_asks is_back x more) ≡ None →
    exchanges_of is_back x (more ++ a ∷ []) ≡ record { asked = run_asks is_back x more; answer = a } ∷ exchanges_of is_back x more
one_exchange false x more a on =
    ap (λ (p : SetterState × List Exchange). p.1) (setter_more x (setter_start x) [] more a)
    ∙ ap (λ (b : Bool). with_exchange b (record { asked = setter_asks x more; answer = a }) (setter_exchanges x more))
    (setter_goes_on (setter_run x (setter_start x) [] more).0.phase x (setter_run x (setter_start x) [] more).0 on)
one_exchange true x more a on =
    ap (λ (p : RestorerState × List Exchange). p.1) (restorer_more x (restorer_start x) [] more a)
    ∙ ap (λ (b : Bool). with_exchange b (record { asked = restorer_asks x more; answer = a }) (restorer_exchanges x more))
    (restorer_goes_on (restorer_run x (restorer_start x) [] more).0.phase x (restorer_run x (restorer_start x) [] more).0 on)

-- the end that is asked
pub ended_so : (q : Question) (e : Ending) → ending_of q ≡ Some e → q ≡ questions.End e
ended_so (questions.Wait n) e is = absurd cc
ended_so questions.Cluster e is = absurd cc
ended_so (questions.Store mark) e is = absurd cc
ended_so (questions.Get i) e is = absurd cc
ended_so (questions.Set i pin) e is = absurd cc
ended_so questions.Roots e is = absurd cc
ended_so (questions.End ending) e is = cc
