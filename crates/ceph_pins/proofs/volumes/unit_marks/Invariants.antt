use Rattle.std.proofs.Common.{◌≡◌, ◌<◌, ℕ, length}
use Rattle.ceph_snapshot.specs.Holding.{is_marked}
use Rattle.ceph_snapshot.specs.Policies.{dir_path_at}
use Rattle.ceph_pins.specs.Volumes.{is_unit}
use Rattle.ceph_pins.proofs.volumes.unit_marks.Given as goal

-- of the directories so far
abbrev pub invariant-loop-directory : goal.invariant-loop-directory
invariant-loop-directory l = record {
  size : length l.units.items ≡ l.directory-index;
  units : (i : ℕ) → i < l.directory-index → is_marked l.units.items i ≡ is_unit (dir_path_at l.directories i);
}
