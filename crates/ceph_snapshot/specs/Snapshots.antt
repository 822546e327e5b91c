-- What holds of each snapshot.
use Rattle.std.specs.Prelude.{◌≡◌, ◌<◌, [], ℕ, length}
use Rattle.ceph_snapshot.specs.declared.snapshot.Snapshot.{Snapshot}
use Rattle.ceph_snapshot.specs.Holding.{AreParentsFirst, parent_at}
use Rattle.ceph_snapshot.specs.Names.{IsPathBelow}
use Rattle.ceph_snapshot.specs.Policies.{KeepUnpinnable, dir_path_at}

-- each directory but the root has as its parent the one that it lies in, which comes before it; those that may not be
-- pinned are kept; and each of 64 ranks has a heat of what is spread
pub record IsSnapshot (snapshot : Snapshot) : Type 0 where
  pub root : dir_path_at snapshot.directories.items 0 ≡ []
  pub first : AreParentsFirst snapshot.directories.items
  pub below : (i : ℕ) → 0 < i → i < length snapshot.directories.items
      → IsPathBelow (dir_path_at snapshot.directories.items (parent_at snapshot.directories.items i))
      (dir_path_at snapshot.directories.items i)
  pub kept : KeepUnpinnable snapshot.directories.items
  pub spread : length snapshot.spread.items ≡ 64
