use Rattle.std.proofs.Common.{◌≡◌, ◌≤◌, ◌*◌, ◌^◌}
use Rattle.mds_types.specs.Sums.{sum_below}
use Rattle.ceph_plan.specs.Packing.{heat_in}
use Rattle.ceph_plan.proofs.shares.together.Given as goal

abbrev pub invariant-loop-hour : goal.invariant-loop-hour
invariant-loop-hour l = record {
  sum : l.sum ≡ sum_below l.hour-index (λ h. heat_in l.hours h l.row);
  small : l.sum ≤ l.hour-index * 2 ^ 57;
}
