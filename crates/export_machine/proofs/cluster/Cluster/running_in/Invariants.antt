use Rattle.std.proofs.Common.{◌≡◌, take}
use Rattle.export_protocol.specs.Step.{running_on}
use Rattle.export_machine.proofs.cluster.Cluster.running_in.Given as goal

-- the requests on the directories so far
abbrev pub invariant-loop-dir : goal.invariant-loop-dir
invariant-loop-dir l = l.requests ≡ running_on l.fn.self.world (take l.dir-index l.dirs)
