use Rattle.std.proofs.Common.{refl, true}
use Rattle.std.proofs.lemmas.Result.{IfOk-weaker}
use Rattle.script_session.proofs.carry_out.change.Goals as goal

pub returns-in-Plan-clause-done : goal.returns-in-Plan-clause-done
returns-in-Plan-clause-done g c = let made = c.in_ok-plan-in-Plan.ensures.done in rw c.in-Plan.is (true, (made.0, made.1, refl, refl))

pub returns-in-Start-clause-done : goal.returns-in-Start-clause-done
returns-in-Start-clause-done g c = rw c.in-Start.is (IfOk-weaker c.start.result _ _ (λ done does. (true, does)) c.start.ensures.done)
