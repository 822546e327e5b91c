use Rattle.std.proofs.lemmas.Result.{err_from_is_err_and}
use Rattle.export_protocol.proofs.Runs.{reached_promised, reached_kept}
use Rattle.export_machine.proofs.Bounds.{answer_refusal}
use Rattle.export_machine.proofs.cluster.Cluster.apply.Goals as goal

pub returns-in_err-prepare-clause-answer : goal.returns-in_err-prepare-clause-answer
returns-in_err-prepare-clause-answer c =
    let e = err_from_is_err_and c.from_residual.result c.from_residual.ensures.1 in
    rw e.1 (answer_refusal c.args.self.now.world c.prepare.new.self.world (c.args.event) e.0 (rw e.2 c.in_err-prepare.ensures.err) c.prepare.ensures.world)

pub returns-in_err-prepare-clause-promised : goal.returns-in_err-prepare-clause-promised
returns-in_err-prepare-clause-promised c = rw c.prepare.ensures.world (reached_promised c.args.self.now.world c.reached.ensures.reached)

pub returns-in_err-prepare-clause-kept : goal.returns-in_err-prepare-clause-kept
returns-in_err-prepare-clause-kept c = reached_kept c.args.self.now.world c.reached.ensures.reached (c.args.event)

pub returns-clause-kept : goal.returns-clause-kept
returns-clause-kept c = reached_kept c.args.self.now.world c.reached.ensures.reached (c.args.event)
