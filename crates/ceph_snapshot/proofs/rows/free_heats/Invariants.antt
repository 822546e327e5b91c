use Rattle.std.proofs.Common.{◌≡◌, ◌<◌, ℕ, length, slice_index}
use Rattle.ceph_snapshot.specs.Rows.{free_heat}
use Rattle.ceph_snapshot.proofs.rows.free_heats.Given as goal

-- the heats of the first directories are there
abbrev pub invariant-loop-at : goal.invariant-loop-at
invariant-loop-at l = record {
  size : length l.heats.items ≡ l.at;
  heats : (i : ℕ) → i < l.at → slice_index l.heats.items i ≡ free_heat l.directories l.holds i;
}
