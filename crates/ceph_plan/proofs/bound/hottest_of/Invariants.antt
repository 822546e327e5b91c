use Rattle.std.proofs.Common.{◌≡◌, ◌^◌, min, slice_index}
use Rattle.mds_types.specs.Sums.{max_below}
use Rattle.ceph_plan.proofs.bound.hottest_of.Given as goal

abbrev pub invariant-loop-heat : goal.invariant-loop-heat
invariant-loop-heat l = l.hottest ≡ min (max_below l.heat-index (slice_index l.heats)) (2 ^ 62)
