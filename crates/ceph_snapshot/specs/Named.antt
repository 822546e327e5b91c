-- The paths that dumps name, and when they are more than 32 bits can number.
use Rattle.std.specs.Prelude.{◌≡◌, ◌⊎◌, ◌<◌, ◌^◌, ℕ, All, List, [], Some, length, slice_get, true}
use Rattle.std.specs.List.{IsAmong}
use Rattle.ceph_snapshot.specs.declared.tree.Node.{Node}
use Rattle.ceph_snapshot.specs.Authority.{is_user_path}
use Rattle.ceph_snapshot.specs.Facts.{Fact, fact_path}
use Rattle.ceph_snapshot.specs.Names.{IsAtOrAbove}
use Rattle.ceph_snapshot.specs.Sightings.{IsNumberOf, PathHeat}

-- a path is named that is at or above one where a rank has seen heat, or one of a root or a listed value. The root of
-- the tree is there without a name
abbrev pub IsPathNamed : List PathHeat → List Fact → List ℕ → Type 0
IsPathNamed seen facts path =
    (path ≡ [])
    ⊎ (((s : PathHeat) × IsAmong seen s × IsAtOrAbove path s.path)
    ⊎ ((f : Fact) × IsAmong facts f × IsAtOrAbove path (fact_path f)))

-- each directory is named
abbrev pub ArePathsNamed : List PathHeat → List Fact → List Node → Type 0
ArePathsNamed seen facts nodes = (path : List ℕ) (i : ℕ) → IsNumberOf nodes path i → IsPathNamed seen facts path

-- there are more of these paths than 32 bits can number, no two of them the same
pub record AreTooManyPaths (Is : List ℕ → Type 0) : Type 0 where
  pub paths : List (List ℕ)
  pub apart : (i j : ℕ) (path : List ℕ) → slice_get paths i ≡ Some path → slice_get paths j ≡ Some path → i ≡ j
  pub many : 2 ^ 32 < length paths
  pub each : All Is paths

-- so of those that are named
abbrev pub AreTooManyNamed : List PathHeat → List Fact → Type 0
AreTooManyNamed seen facts = AreTooManyPaths (IsPathNamed seen facts)

-- a path is at or above that of a directory of users
abbrev pub IsUpFrom : List ℕ → List ℕ → Type 0
IsUpFrom other path = (is_user_path other ≡ true) × IsAtOrAbove path other

-- a path is that of a directory that was there before, or such a one
abbrev pub IsOldOr : List Node → (List ℕ → Type 0) → List ℕ → Type 0
IsOldOr old Is path = ((i : ℕ) × IsNumberOf old path i) ⊎ Is path

-- each directory was there before, or has such a path
abbrev pub AreOldOr : List Node → (List ℕ → Type 0) → List Node → Type 0
AreOldOr old Is new = (path : List ℕ) (i : ℕ) → IsNumberOf new path i → IsOldOr old Is path
