use Rattle.ceph_plan.specs.Packing.{AreLoads}
use Rattle.std.proofs.Common.{slice_index}
use Rattle.ceph_plan.proofs.loads.loads.Given as goal

abbrev pub invariant-loop-i : goal.invariant-loop-i
invariant-loop-i l = AreLoads l.hours l.i (slice_index l.rank) l.loads.items
