use Rattle.std.proofs.Common.{◌≡◌, ◌<◌, ℕ, length, slice_index}
use Rattle.mds_types.specs.Sums.{count_below}
use Rattle.ceph_plan.specs.MadeHours.{is_free_child}
use Rattle.ceph_plan.proofs.made.counts.Given as goal

abbrev pub invariant-loop-i : goal.invariant-loop-i
invariant-loop-i l = record {
  size : length l.counts.items ≡ length l.rows;
  each : (d : ℕ) → d < length l.rows → slice_index l.counts.items d ≡ count_below l.i (is_free_child l.rows l.free d);
}
