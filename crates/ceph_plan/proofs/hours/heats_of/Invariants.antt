use Rattle.std.proofs.Common.{◌≡◌, ◌<◌, ℕ, length, slice_index}
use Rattle.mds_types.specs.Problem.{heat_at}
use Rattle.ceph_plan.proofs.hours.heats_of.Given as goal

abbrev pub invariant-loop-row : goal.invariant-loop-row
invariant-loop-row l = record {
  size : length l.heats.items ≡ l.row-index;
  heats : (i : ℕ) → i < l.row-index → slice_index l.heats.items i ≡ heat_at l.rows i;
}
