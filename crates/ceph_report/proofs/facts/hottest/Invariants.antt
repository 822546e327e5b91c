use Rattle.std.proofs.Common.{◌≡◌, slice_index}
use Rattle.mds_types.specs.Sums.{max_below}
use Rattle.ceph_report.proofs.facts.hottest.Given as goal

abbrev pub invariant-loop-heat : goal.invariant-loop-heat
invariant-loop-heat l = l.greatest ≡ max_below l.heat-index (slice_index l.heats)
