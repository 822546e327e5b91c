use Rattle.std.proofs.Common.{◌≡◌, ◌<◌, ◌≤◌, ℕ, length, None, Some}
use Rattle.mds_types.specs.declared.limits.TheConstants.{DIR_LIMIT}
use Rattle.ceph_plan.specs.Rule.{foreign_at, parent_at, rest_at, target_at}
use Rattle.ceph_plan.proofs.pins.are_rows.Given as goal

abbrev pub invariant-loop-i : goal.invariant-loop-i
invariant-loop-i l = record {
  few : length l.rows ≤ DIR_LIMIT;
  root : 0 < l.i → parent_at l.rows 0 ≡ 0;
  root_free : 0 < l.i → foreign_at l.rows 0 ≡ None;
  root_rests : 0 < l.i → rest_at l.rows 0 ≡ Some (target_at l.rows 0);
  above : (j : ℕ) → 0 < j → j < l.i → parent_at l.rows j < j;
}
