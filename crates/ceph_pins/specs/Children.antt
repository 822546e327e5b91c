-- The children of directories, and the heat at and below them.
use Rattle.std.specs.Prelude.{◌≡◌, ◌==◌, ◌&&◌, ◌+◌, ◌<◌, ℕ, Bool, nat_lt, List, length, min, slice_get, slice_index}
use Rattle.std.specs.Prelude.{Option, None, if◌then◌else◌}
use Rattle.std.specs.Option.{option_map_or}
use Rattle.mds_types.specs.Sums.{count_below, sum_below}
use Rattle.ceph_snapshot.specs.declared.directory.Directory.{Directory}
use Rattle.ceph_snapshot.specs.Holding.{most_heat, parent_at}

abbrev pub inode_at : List Directory → ℕ → Option ℕ
inode_at directories i = option_map_or (λ (d : Directory). d.inode) (slice_get directories i) None

-- directory c is a child of directory i; children come after their parents
unfoldable pub is_child_of : List Directory → ℕ → ℕ → Bool
is_child_of directories i c = nat_lt i c && (parent_at directories c == i)

-- the heat at and below directory i, where the second list has the heat below each, as far as 64 bits can count it
unfoldable pub heat_from : List ℕ → List ℕ → ℕ → ℕ
heat_from heats below i = min most_heat (slice_index heats i + slice_index below i)

-- the heat below each directory is that at and below its children
pub record AreBelow (directories : List Directory) (heats below : List ℕ) : Type 0 where
  pub size : length below ≡ length directories
  pub sums : (i : ℕ) → i < length directories → slice_index below i ≡ min most_heat
      (sum_below (length directories) (λ c. if is_child_of directories i c then heat_from heats below c else 0))

-- how many of the first n directories are children of directory i and hot
abbrev pub hot_below : List Directory → List ℕ → List ℕ → ℕ → ℕ → ℕ
hot_below directories heats below n i =
    count_below n (λ c. is_child_of directories i c && nat_lt 0 (heat_from heats below c))

-- and of all
pub record AreHotCounts (directories : List Directory) (heats below hot : List ℕ) : Type 0 where
  pub size : length hot ≡ length directories
  pub counts : (i : ℕ) → i < length directories
      → slice_index hot i ≡ hot_below directories heats below (length directories) i
