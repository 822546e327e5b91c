use Rattle.std.proofs.Common.{◌≡◌, ◌<◌, ℕ, length, slice_index}
use Rattle.ceph_snapshot.specs.Hours.{heat_then}
use Rattle.ceph_snapshot.specs.Policies.{dir_path_at}
use Rattle.ceph_snapshot.proofs.past_heats.heats_then.Given as goal

-- the heats of the first directories are there
abbrev pub invariant-loop-directory : goal.invariant-loop-directory
invariant-loop-directory l = record {
  size : length l.heats.items ≡ l.directory-index;
  heats : (i : ℕ) → i < l.directory-index → slice_index l.heats.items i ≡ heat_then l.fn.past (dir_path_at l.directories i);
}
