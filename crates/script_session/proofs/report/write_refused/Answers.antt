use Rattle.std.proofs.Common.{sym}
use Rattle.std.proofs.lemmas.Result.{err_from_is_err_and}
use Rattle.script_board.specs.declared.fault.Fault.{Fault}
use Rattle.script_engine.specs.Answers.{fault_text}
use Rattle.script_session.specs.Fault.{words}
use Rattle.script_session.proofs.ReportLemmas.{written_front, written_more}
use Rattle.script_session.proofs.report.write_refused.Goals as goal

pub loop-fault-preserved : goal.loop-fault-preserved
loop-fault-preserved g c =
    written_more (λ (fault : Fault). fault_text c.args.number (words fault)) c.args.refused.now c.loop-fault.fault-index c.fault-item.result
    c.loop-fault-test.true (sym c.fault-item.is) _ _ _ c.loop-fault.invariant c.in_ok-write_fault.ensures.ok

pub returns-in_err-write_fault-clause-err : goal.returns-in_err-write_fault-clause-err
returns-in_err-write_fault-clause-err g c =
    let e = err_from_is_err_and c.from_residual.result c.from_residual.ensures.1 in
    rw e.1 (written_front (λ (fault : Fault). fault_text c.args.number (words fault)) c.args.refused.now c.loop-fault.fault-index
    c.fault-item.result c.loop-fault-test.true (sym c.fault-item.is) _ _ _ c.loop-fault.invariant c.in_err-write_fault.ensures.err)
