use Rattle.std.proofs.Common.{◌≡◌, ◌<◌, ℕ, length, slice_index}
use Rattle.ceph_snapshot.specs.Holding.{heat_at}
use Rattle.ceph_snapshot.proofs.directory.own_heats.Given as goal

abbrev pub invariant-loop-directory : goal.invariant-loop-directory
invariant-loop-directory l = record {
  size : length l.heats.items ≡ l.directory-index;
  heats : (i : ℕ) → i < l.directory-index → slice_index l.heats.items i ≡ heat_at l.directories i;
}
