use Rattle.std.proofs.Common.{◌≡◌, ◌<◌, ℕ, length, slice_index}
use Rattle.mds_types.specs.Problem.{row_at}
use Rattle.ceph_plan.proofs.made.with_numbers.Given as goal

abbrev pub invariant-loop-i : goal.invariant-loop-i
invariant-loop-i l = record {
  size : length l.found.items ≡ l.i;
  rows_are : (j : ℕ) → j < l.i → row_at l.found.items j ≡ record (row_at l.rows j) { heat = slice_index l.own j };
}
