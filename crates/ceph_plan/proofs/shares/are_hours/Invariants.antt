use Rattle.std.proofs.Common.{◌≡◌, ◌<◌, ◌≤◌, ◌^◌, ℕ, length}
use Rattle.mds_types.specs.Sums.{sum_below}
use Rattle.ceph_plan.specs.Packing.{IsPinnedHeat, heat_in, heats_in, pinned_in}
use Rattle.ceph_plan.proofs.shares.are_hours.Given as goal

abbrev pub invariant-loop-hour : goal.invariant-loop-hour
invariant-loop-hour l = record {
  pinned : (h : ℕ) → h < l.hour-index → IsPinnedHeat (pinned_in l.hours h);
  size : (h : ℕ) → h < l.hour-index → length (heats_in l.hours h) ≡ l.rows;
  total : (h : ℕ) → h < l.hour-index → sum_below l.rows (heat_in l.hours h) ≤ 2 ^ 56;
}
