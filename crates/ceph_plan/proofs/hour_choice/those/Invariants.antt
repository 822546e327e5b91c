use Rattle.std.proofs.Common.{◌≡◌, ◌<◌, ℕ, length, slice_index}
use Rattle.ceph_plan.specs.Packing.{heats_in, pinned_in}
use Rattle.ceph_plan.proofs.hour_choice.those.Given as goal

abbrev pub invariant-loop-h : goal.invariant-loop-h
invariant-loop-h l = record {
  size : length l.found.items ≡ l.h-index;
  heats : (k : ℕ) → k < l.h-index → heats_in l.found.items k ≡ heats_in l.hours (slice_index l.chosen k);
  pinned : (k : ℕ) → k < l.h-index → pinned_in l.found.items k ≡ pinned_in l.hours (slice_index l.chosen k);
}
