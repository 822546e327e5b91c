use Rattle.std.proofs.Common.{◌≡◌, ◌<◌, ◌+◌, ◌*◌, ℕ, length, slice_index}
use Rattle.ceph_plan.specs.Packing.{greatest_of}
use Rattle.ceph_plan.proofs.hour_choice.greatest_of_hours.Given as goal

abbrev pub invariant-loop-hour : goal.invariant-loop-hour
invariant-loop-hour l = record {
  size : length l.found.items ≡ l.hour;
  greatest : (h : ℕ) → h < l.hour → slice_index l.found.items h ≡ greatest_of l.ranks (λ r. slice_index l.loads (h * 64 + r));
}
