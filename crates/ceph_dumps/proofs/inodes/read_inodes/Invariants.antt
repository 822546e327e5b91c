use Rattle.std.proofs.Common.{length}
use Rattle.ceph_dumps.specs.Inodes.{AreInodesBefore}
use Rattle.ceph_dumps.proofs.inodes.read_inodes.Given as goal

abbrev pub invariant-loop-rest : goal.invariant-loop-rest
invariant-loop-rest l = AreInodesBefore l.fn.bytes l.rest l.found.items

abbrev pub decreases-loop-rest : goal.decreases-loop-rest
decreases-loop-rest l = length l.rest
