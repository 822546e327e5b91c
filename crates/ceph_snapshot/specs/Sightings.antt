-- The heat of a directory and the inode number that dumps name, by what ranks have seen at its path.
use Rattle.std.specs.Prelude.{◌≡◌, ◌==◌, ◌&&◌, ◌||◌, ◌/◌, ◌<◌, [], ℕ, All, Bool, List, length, map, filter, min, sum_by}
use Rattle.std.specs.Prelude.{Option, Some, None, slice_get, if◌then◌else◌}
use Rattle.std.specs.List.{fold}
use Rattle.std.specs.Option.{option_map, option_or}
use Rattle.std.specs.Str.{bytes_eq}
use Rattle.mds_types.specs.declared.limits.TheConstants.{HEAT_LIMIT}
use Rattle.ceph_dumps.specs.declared.loads.FragmentHeat.{FragmentHeat}
use Rattle.ceph_snapshot.specs.declared.directory.Directory.{Directory}
use Rattle.ceph_snapshot.specs.declared.tree.Node.{Node}
use Rattle.ceph_snapshot.specs.declared.tree.Sighting.{Sighting}
use Rattle.ceph_snapshot.specs.declared.names.Names.{Names}
use Rattle.ceph_snapshot.specs.Authority.{above_at, is_torn_at, is_user_path, node_path_at}
use Rattle.ceph_snapshot.specs.Gathered.{seen_heat}
use Rattle.ceph_snapshot.specs.Holding.{most_heat}
use Rattle.ceph_snapshot.specs.Names.{IsPathBelow, path_number}

-- heat that a rank has seen at a path, and the inode number that it names
pub record PathHeat : Type 0 where
  pub path : List ℕ
  pub rank : ℕ
  pub heat : ℕ
  pub writes : ℕ
  pub inode : Option ℕ

abbrev pub of_fragment : ℕ → FragmentHeat → PathHeat
of_fragment rank f = record {
  path = f.path.items;
  rank = rank;
  heat = f.heat;
  writes = f.writes;
  inode = f.inode;
}

-- what a rank's sample says of the directories of users
abbrev pub seen_in : ℕ → List FragmentHeat → List PathHeat
seen_in rank loads = map (of_fragment rank) (filter (λ f. is_user_path f.path.items) loads)

-- a sighting with the path of its directory
abbrev pub with_path : List Node → Sighting → PathHeat
with_path nodes s = record {
  path = node_path_at nodes s.directory;
  rank = s.rank;
  heat = s.heat;
  writes = s.writes;
  inode = s.inode;
}

-- the directories by number, and what ranks have seen by path
pub record TreeData : Type 0 where
  pub nodes : List Node
  pub seen : List PathHeat

-- the account of a directory: its path, heat, writes and inode number
abbrev pub Account : Type 0
Account = List ℕ × (ℕ × (ℕ × Option ℕ))

abbrev pub account_of : Directory → Account
account_of d = (d.path.items, (d.heat, (d.writes, d.inode)))

abbrev pub account_at : List Node → ℕ → Option Account
account_at nodes i = option_map (λ (n : Node). account_of n.directory) (slice_get nodes i)

-- the directory with this number is the one that a path lies in
pub record IsParentOf (nodes : List Node) (path : List ℕ) (parent : ℕ) : Type 0 where
  pub inside : parent < length nodes
  pub below : IsPathBelow (node_path_at nodes parent) path

-- the root names itself, and each other directory the one that it lies in, which has a smaller number
pub record AreBelowParents (nodes : List Node) : Type 0 where
  pub some : 0 < length nodes
  pub path : node_path_at nodes 0 ≡ []
  pub root : above_at nodes 0 ≡ 0
  pub first : (i : ℕ) → 0 < i → i < length nodes → above_at nodes i < i
  pub below : (i : ℕ) → 0 < i → i < length nodes
      → IsPathBelow (node_path_at nodes (above_at nodes i)) (node_path_at nodes i)

-- each path has the number of its directory, whose heat is not yet counted, and which lies below its parent
pub record IsNumbered (names : Names) (nodes : List Node) (sightings : List Sighting) : Type 0 where
  pub named : (path : List ℕ) (i : ℕ) → path_number names path ≡ Some i
      → account_at nodes i ≡ Some (path, (0, (0, None)))
  pub numbered : (i : ℕ) (t : Account) → account_at nodes i ≡ Some t → path_number names t.0 ≡ Some i
  pub inside : All (λ (s : Sighting). s.directory < length nodes) sightings
  pub below : AreBelowParents nodes

-- no two directories have one path
abbrev pub HaveOwnPaths : List Node → Type 0
HaveOwnPaths nodes =
    (i j : ℕ) (t u : Account) → account_at nodes i ≡ Some t → account_at nodes j ≡ Some u → t.0 ≡ u.0 → i ≡ j

-- no heat is counted yet, and no inode number
abbrev pub AreCold : List Node → Type 0
AreCold nodes = (i : ℕ) (t : Account) → account_at nodes i ≡ Some t → t ≡ (t.0, (0, (0, None)))

-- this is the number of a path
pub record IsNumberOf (nodes : List Node) (path : List ℕ) (i : ℕ) : Type 0 where
  pub inside : i < length nodes
  pub there : node_path_at nodes i ≡ path

-- whether a directory is spread, its rank if it isn't, and its parent
abbrev pub Position : Type 0
Position = Bool × (ℕ × ℕ)

abbrev pub position_of : Directory → Position
position_of d = (d.is_spread, (if d.is_spread then 0 else d.now, d.parent))

abbrev pub position_at : List Node → ℕ → Option Position
position_at nodes i = option_map (λ (n : Node). position_of n.directory) (slice_get nodes i)

-- the directories lie where those nodes do
abbrev pub LieAt : List Node → List Directory → Type 0
LieAt nodes directories = (i : ℕ) → option_map position_of (slice_get directories i) ≡ position_at nodes i

-- what a rank sees at a directory counts where it has that, and each rank's where it is spread
abbrev pub is_seen_by : Directory → ℕ → Bool
is_seen_by d rank = d.is_spread || (d.now == rank)

-- the account of a directory with one more sighting, of this directory or of another
abbrev pub account_with : Bool → Sighting → Directory → Account
account_with here s d = (
  d.path.items,
  (
    seen_heat d.heat s.heat (here && is_seen_by d s.rank),
    (
      seen_heat d.writes s.writes (here && is_seen_by d s.rank),
      if here then option_or s.inode d.inode else d.inode,
    ),
  ),
)

-- what counts of the sightings of directory i
abbrev pub sum_at : ℕ → Directory → (Sighting → ℕ) → List Sighting → ℕ
sum_at i d part = sum_by (λ s. if (s.directory == i) && is_seen_by d s.rank then part s else 0)

-- the account of directory i, of which nothing was counted, with all sightings
abbrev pub account_by : ℕ → List Sighting → Directory → Account
account_by i sightings d = (
  d.path.items,
  (
    min most_heat (sum_at i d (λ s. s.heat) sightings),
    (
      min most_heat (sum_at i d (λ s. s.writes) sightings),
      fold (λ found s. if s.directory == i then option_or s.inode found else found) None sightings,
    ),
  ),
)

-- with heat and writes as the mean of `samples` samples
abbrev pub mean_account : ℕ → Account → Account
mean_account samples t = (t.0, (min (t.1.0 / samples) HEAT_LIMIT, (min (t.1.1.0 / samples) HEAT_LIMIT, t.1.1.1)))

-- what of a sighting counts as spread at a rank
abbrev pub torn_heat : List Node → ℕ → ℕ → Sighting → ℕ
torn_heat nodes samples rank s = if (s.rank == rank) && is_torn_at nodes s.directory then s.heat / samples else 0

-- what was seen at a directory's path by a rank that counts
abbrev pub counts : Directory → PathHeat → Bool
counts d s = bytes_eq s.path d.path.items && is_seen_by d s.rank

-- the mean of `samples` samples, as far as a heat may go
abbrev pub mean_of : ℕ → ℕ → ℕ
mean_of samples sum = min (min most_heat sum / samples) HEAT_LIMIT

-- the inode number that was named last for a path
abbrev pub inode_seen : List ℕ → List PathHeat → Option ℕ
inode_seen path seen = fold (λ found s. if bytes_eq s.path path then option_or s.inode found else found) None seen

-- a directory has the mean of the heat that was seen at its path by the ranks that have it
pub record HasSeen (seen : List PathHeat) (samples : ℕ) (d : Directory) : Type 0 where
  pub heat : d.heat ≡ mean_of samples (sum_by (λ s. if counts d s then s.heat else 0) seen)
  pub writes : d.writes ≡ mean_of samples (sum_by (λ s. if counts d s then s.writes else 0) seen)
