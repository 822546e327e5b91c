use Rattle.std.proofs.Common.{◌≡◌, ◌≤◌, ◌*◌, ◌+◌, ◌&&◌, ◌==◌, ◌<◌, ◌^◌, ℕ, length, slice_index, cond}
use Rattle.mds_types.specs.Problem.{inodes_at, now_at}
use Rattle.mds_types.specs.Sums.{sum_below}
use Rattle.ceph_plan.proofs.rank_choice.part_inodes.Given as goal

abbrev pub invariant-loop-i : goal.invariant-loop-i
invariant-loop-i l = record {
  size : length l.inodes.items ≡ l.count * 64;
  there : (p r : ℕ) → p < l.count → r < 64 → slice_index l.inodes.items (p * 64 + r)
      ≡ sum_below l.i (λ j. cond ((slice_index l.part j == p) && (now_at l.rows j == r)) (inodes_at l.rows j) 0);
  small : (k : ℕ) → k < l.count * 64 → slice_index l.inodes.items k ≤ l.i * 2 ^ 32;
}
