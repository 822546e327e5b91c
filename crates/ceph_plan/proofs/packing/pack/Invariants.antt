use Rattle.std.proofs.Common.{take}
use Rattle.ceph_plan.specs.declared.packing.TheConstants.{TOLERANCES}
use Rattle.ceph_plan.proofs.PackedRows.{AreSoFar}
use Rattle.ceph_plan.proofs.packing.pack.Given as goal

-- the first tolerances were tried
abbrev pub invariant-loop-keep : goal.invariant-loop-keep
invariant-loop-keep l = AreSoFar l.fn.ranks l.hours l.rows l.part l.count l.even.greatest l.each.items (take l.keep-index TOLERANCES.now)
