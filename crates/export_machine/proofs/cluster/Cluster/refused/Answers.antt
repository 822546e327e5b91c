use Rattle.std.proofs.Common.{refl, sym, inl, inr}
use Rattle.export_machine.proofs.Bounds.{answer_refused}
use Rattle.export_machine.proofs.cluster.Cluster.refused.Goals as goal

pub returns-in-Err : goal.returns-in-Err
returns-in-Err c = (inl (answer_refused c.args.self.now.world (c.args.event.now) c.in-Err.error (sym c.in-Err.ensures)), refl)

pub returns-in-Ok : goal.returns-in-Ok
returns-in-Ok c = (inr (refl, sym c.in-Ok.ensures), refl)
