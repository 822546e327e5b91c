use Rattle.std.proofs.Common.{◌<◌, ◌≤◌, ℕ}
use Rattle.mds_types.specs.Problem.{heat_at}
use Rattle.residual_cut.proofs.cut.first_hot.Given as goal

abbrev pub invariant-loop-i : goal.invariant-loop-i
invariant-loop-i l = (j : ℕ) → j < l.i → heat_at l.rows j ≤ l.bound
