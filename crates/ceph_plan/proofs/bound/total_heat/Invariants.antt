use Rattle.std.proofs.Common.{◌≡◌, ◌≤◌, ◌*◌, ◌^◌}
use Rattle.mds_types.specs.Problem.{heat_at}
use Rattle.mds_types.specs.Sums.{sum_below}
use Rattle.ceph_plan.proofs.bound.total_heat.Given as goal

abbrev pub invariant-loop-row : goal.invariant-loop-row
invariant-loop-row l = record {
  total : l.total ≡ sum_below l.row-index (heat_at l.rows);
  small : l.total ≤ l.row-index * 2 ^ 40;
}
