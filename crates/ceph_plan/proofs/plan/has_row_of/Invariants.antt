use Rattle.std.proofs.Common.{◌<◌, ℕ}
use Rattle.mds_types.specs.Problem.{heat_at}
use Rattle.ceph_plan.proofs.plan.has_row_of.Given as goal

abbrev pub invariant-loop-row : goal.invariant-loop-row
invariant-loop-row l = (i : ℕ) → i < l.row-index → heat_at l.rows i < l.heat
