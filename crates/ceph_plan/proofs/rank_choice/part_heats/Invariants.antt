use Rattle.std.proofs.Common.{◌≡◌, ◌==◌, ◌<◌, ℕ, length, slice_index, cond}
use Rattle.mds_types.specs.Sums.{sum_below}
use Rattle.ceph_plan.proofs.rank_choice.part_heats.Given as goal

abbrev pub invariant-loop-i : goal.invariant-loop-i
invariant-loop-i l = record {
  size : length l.found.items ≡ l.count;
  heats : (p : ℕ) → p < l.count → slice_index l.found.items p ≡ sum_below l.i (λ j. cond (slice_index l.part j == p) (slice_index l.heats j) 0);
}
