use Rattle.std.proofs.Common.{subst}
use Rattle.export_protocol.specs.Promises.{Promised}
use Rattle.export_machine.specs.Kept.{State, world_of}
use Rattle.export_protocol.proofs.Runs.{reached_promised}
use Rattle.export_machine.proofs.cluster.Cluster.promised.Goals as goal

pub returns : goal.returns
returns c = subst (λ (s : State). Promised s.world) c.self.view_is (reached_promised (world_of c.self.inside.records) c.self.invariant.reached)
