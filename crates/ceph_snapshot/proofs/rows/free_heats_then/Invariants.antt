use Rattle.std.proofs.Common.{◌≡◌, ◌<◌, ℕ, length, slice_index}
use Rattle.ceph_snapshot.specs.Rows.{planned_heat}
use Rattle.ceph_snapshot.proofs.rows.free_heats_then.Given as goal

-- the heats of the first rows are there
abbrev pub invariant-loop-at : goal.invariant-loop-at
invariant-loop-at l = record {
  size : length l.planned.items ≡ l.at;
  heats : (i : ℕ) → i < l.at → slice_index l.planned.items i ≡ planned_heat l.holds (slice_index l.fn.heats) i;
}
