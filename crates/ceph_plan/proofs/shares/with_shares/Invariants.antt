use Rattle.std.proofs.Common.{◌≡◌, ◌<◌, ℕ, length}
use Rattle.mds_types.specs.Problem.{row_at}
use Rattle.mds_types.specs.Sums.{sum_below}
use Rattle.ceph_plan.specs.Packing.{heat_in}
use Rattle.ceph_plan.proofs.shares.with_shares.Given as goal

abbrev pub invariant-loop-i : goal.invariant-loop-i
invariant-loop-i l = record {
  size : length l.found.items ≡ l.i;
  rows : (j : ℕ) → j < l.i → row_at l.found.items j ≡ record (row_at l.rows j) { heat = sum_below (length l.shares) (λ h. heat_in l.shares h j) };
}
