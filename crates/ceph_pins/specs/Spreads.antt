-- Where the policy `ceph.dir.pin.distributed` helps most, and what it gives there.
use Rattle.std.specs.Prelude.{◌≡◌, ◌==◌, ◌&&◌, ◌+◌, ◌<◌, ◌≤◌, ℕ, Bool, false, true, List, drop, length, min}
use Rattle.std.specs.Prelude.{is_some, slice_index, Option, Some, None, if◌then◌else◌}
use Rattle.std.specs.Option.{option_map_or}
use Rattle.mds_types.specs.Sums.{sum_below}
use Rattle.ceph_snapshot.specs.declared.directory.Directory.{Directory}
use Rattle.ceph_snapshot.specs.Holding.{is_fixed_at, most_heat}
use Rattle.ceph_snapshot.specs.Policies.{dir_path_at, policy_at}
use Rattle.ceph_pins.specs.declared.spread.Advice.{Advice}
use Rattle.ceph_pins.specs.Children.{AreBelow, AreHotCounts, heat_from, inode_at, is_child_of}
use Rattle.ceph_pins.specs.Ranks.{rank_of_child}

-- the policy can be set on directory i, isn't set, and has hot children enough to spread. The root can't have one
pub record CanBeSpread (directories : List Directory) (hot : List ℕ) (i : ℕ) : Type 0 where
  pub below : 0 < i
  pub inside : i < length directories
  pub inode : is_some (inode_at directories i) ≡ true
  pub policy : is_some (policy_at directories i) ≡ false
  pub fixed : is_fixed_at directories i ≡ false
  pub many : 16 ≤ slice_index hot i

-- the place where the policy spreads most, of the first n directories
pub record SpreadsMost (directories : List Directory) (below hot : List ℕ) (n place : ℕ) : Type 0 where
  pub can : CanBeSpread directories hot place
  pub most : (i : ℕ) → i < n → CanBeSpread directories hot i → slice_index below i ≤ slice_index below place

abbrev pub IsPlaceFound : List Directory → List ℕ → List ℕ → ℕ → Option ℕ → Type 0
IsPlaceFound directories below hot n (Some place) = SpreadsMost directories below hot n place
IsPlaceFound directories below hot n None = (i : ℕ) → i < n → ¬ CanBeSpread directories hot i

-- the name of directory c in directory i: what follows that one's path and a slash
abbrev pub child_name : List Directory → ℕ → ℕ → List ℕ
child_name directories i c = drop (length (dir_path_at directories i) + 1) (dir_path_at directories c)

-- the rank to which the policy on directory i would pin its child c
unfoldable pub child_rank : List Directory → ℕ → ℕ → ℕ → ℕ
child_rank directories size i c =
    rank_of_child (option_map_or (λ (inode : ℕ). inode) (inode_at directories i) 0) (child_name directories i c) size

-- directory c is a child of directory i, and would be at rank r
unfoldable pub is_at_rank : List Directory → ℕ → ℕ → ℕ → ℕ → Bool
is_at_rank directories size i r c = is_child_of directories i c && (child_rank directories size i c == r)

-- what would be at rank r of what the children of directory i have, of the first n directories
abbrev pub heat_at_rank : List Directory → List ℕ → List ℕ → ℕ → ℕ → ℕ → ℕ → ℕ
heat_at_rank directories heats below size n i r =
    sum_below n (λ c. if is_at_rank directories size i r c then heat_from heats below c else 0)

-- what the policy gives at the place where it spreads most
pub record IsAdvice (directories : List Directory) (heats below hot : List ℕ) (size : ℕ) (found : Advice) : Type 0 where
  pub place : ℕ
  pub hottest : SpreadsMost directories below hot (length directories) place
  pub path : found.path.items ≡ dir_path_at directories place
  pub children : found.children ≡ slice_index hot place
  pub heat : found.heat ≡ slice_index below place
  pub ranks : length found.spread.items ≡ size
  pub spread : (r : ℕ) → r < size → slice_index found.spread.items r
      ≡ min most_heat (heat_at_rank directories heats below size (length directories) place r)

abbrev pub IsAdvisedOf : List Directory → List ℕ → List ℕ → List ℕ → ℕ → Option Advice → Type 0
IsAdvisedOf directories heats below hot size (Some advice) =
    (2 ≤ size) × IsAdvice directories heats below hot size advice
IsAdvisedOf directories heats below hot size None =
    (i : ℕ) → 2 ≤ size → i < length directories → ¬ CanBeSpread directories hot i

-- there is an advice where there are two ranks and a directory on which the policy can be set
pub record IsAdvised (directories : List Directory) (heats : List ℕ) (size : ℕ) (found : Option Advice) : Type 0 where
  pub below : List ℕ
  pub hot : List ℕ
  pub heat : AreBelow directories heats below
  pub counts : AreHotCounts directories heats below hot
  pub advised : IsAdvisedOf directories heats below hot size found
