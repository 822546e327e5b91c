use Rattle.std.proofs.Common.{◌≡◌, ◌<◌, ◌==◌, ℕ, length, slice_index, cond}
use Rattle.mds_types.specs.Sums.{sum_below}
use Rattle.ceph_plan.specs.Packing.{heat_in, heats_in, pinned_in}
use Rattle.ceph_plan.proofs.rank_choice.part_hours.Given as goal

abbrev pub invariant-loop-hour : goal.invariant-loop-hour
invariant-loop-hour l = record {
  size : length l.parts.items ≡ l.hour-index;
  pinned : (h : ℕ) → h < l.hour-index → pinned_in l.parts.items h ≡ pinned_in l.hours h;
  sizes : (h : ℕ) → h < l.hour-index → length (heats_in l.parts.items h) ≡ l.count;
  heats : (h p : ℕ) → h < l.hour-index → p < l.count
      → heat_in l.parts.items h p ≡ sum_below (length l.part) (λ i. cond (slice_index l.part i == p) (heat_in l.hours h i) 0);
}
