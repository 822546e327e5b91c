use Rattle.std.proofs.Common.{◌≡◌, ◌<◌, ℕ, length, slice_index}
use Rattle.ceph_plan.specs.Packing.{heats_in, pinned_in}
use Rattle.ceph_plan.specs.Shares.{IsBoundOfHour}
use Rattle.ceph_plan.proofs.shares.bounds_of.Given as goal

abbrev pub invariant-loop-hour : goal.invariant-loop-hour
invariant-loop-hour l = record {
  size : length l.bounds.items ≡ l.hour-index;
  bounds : (h : ℕ) → h < l.hour-index → IsBoundOfHour l.ranks (pinned_in l.hours h) (heats_in l.hours h) (slice_index l.bounds.items h);
}
