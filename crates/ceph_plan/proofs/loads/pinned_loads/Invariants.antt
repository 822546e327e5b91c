use Rattle.std.proofs.Common.{◌≡◌, ◌<◌, ◌+◌, ◌*◌, ℕ, length, slice_index}
use Rattle.ceph_plan.specs.Packing.{pinned_at}
use Rattle.ceph_plan.proofs.loads.pinned_loads.Given as goal

abbrev pub invariant-loop-hour : goal.invariant-loop-hour
invariant-loop-hour l = record {
  size : length l.loads.items ≡ l.hour-index * 64;
  pinned : (h r : ℕ) → h < l.hour-index → r < 64 → slice_index l.loads.items (h * 64 + r) ≡ pinned_at l.hours h r;
}
