use Rattle.std.proofs.Common.{◌≡◌, ◌≤◌, ◌*◌, nat_lt, slice_index}
use Rattle.mds_types.specs.Sums.{count_below}
use Rattle.ceph_plan.proofs.hour_choice.is_little.Given as goal

abbrev pub invariant-loop-other : goal.invariant-loop-other
invariant-loop-other l = record {
  greater : l.greater ≡ count_below l.other-index (λ g. nat_lt (l.load * 10) (slice_index l.loads g));
  few : l.greater ≤ l.other-index;
}
