use Rattle.std.proofs.Common.{◌≡◌, ◌<◌, ℕ, length, slice_index}
use Rattle.mds_types.specs.Problem.{now_at}
use Rattle.ceph_plan.proofs.placement.ranks_now.Given as goal

abbrev pub invariant-loop-row : goal.invariant-loop-row
invariant-loop-row l = record {
  size : length l.found.items ≡ l.row-index;
  now : (i : ℕ) → i < l.row-index → slice_index l.found.items i ≡ now_at l.rows i;
}
