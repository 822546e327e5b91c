use Rattle.std.proofs.Common.{◌≡◌, ◌<◌, ◌^◌, ℕ, length, slice_index}
use Rattle.mds_types.specs.Problem.{inodes_at}
use Rattle.ceph_plan.proofs.made.all_inodes.Given as goal

abbrev pub invariant-loop-row : goal.invariant-loop-row
invariant-loop-row l = record {
  size : length l.found.items ≡ l.row-index;
  small : (i : ℕ) → i < l.row-index → slice_index l.found.items i < 2 ^ 32;
  inodes : (i : ℕ) → i < l.row-index → slice_index l.found.items i ≡ inodes_at l.rows i;
}
