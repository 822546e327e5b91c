use Rattle.std.proofs.Common.{take}
use Rattle.export_machine.proofs.Counts.{IsLeast}
use Rattle.export_machine.proofs.cluster.Cluster.check_leaving.Given as goal

-- of the directories so far the faulty one that is least
abbrev pub invariant-loop-dir : goal.invariant-loop-dir
invariant-loop-dir l = IsLeast l.fn.self.world l.from (take l.dir-index l.dirs) l.least
