-- The paths that a mount has for inode numbers, in place of those that the dumps name.
use Rattle.std.specs.Prelude.{◌==◌, ℕ, Bool, false, List, [], ◌∷◌, Option, Some, None, filter, map}
use Rattle.std.specs.Option.{unwrap_or}
use Rattle.ceph_dumps.specs.Inode.{inode_of}
use Rattle.ceph_dumps.specs.Subtrees.{RootData}
use Rattle.ceph_dumps.specs.declared.listing.ListedDir.{ListedDir}
use Rattle.ceph_dumps.specs.declared.listing.ListedValue.{ListedValue}
use Rattle.ceph_dumps.specs.declared.listing.ListedValue.TheVariants.{Entries, Inode, Pin, Policy}
use Rattle.ceph_snapshot.specs.Sightings.{PathHeat}

-- whether a value is this inode number
abbrev pub is_number : ℕ → ListedValue → Bool
is_number number (Entries count) = false
is_number number (Pin pin) = false
is_number number (Policy policy) = false
is_number number (Inode other) = other == number

-- the paths that are listed with a number, and the one path where it is one
abbrev pub paths_of : List ListedDir → ℕ → List (List ℕ)
paths_of listing number = map (λ d. d.path.items) (filter (λ d. is_number number d.value) listing)

abbrev pub only_path : List (List ℕ) → Option (List ℕ)
only_path [] = None
only_path (path ∷ []) = Some path
only_path (path ∷ other ∷ paths) = None

-- the path of a directory: the listed one of its number, if there is exactly one, or else that of the dumps
abbrev pub mounted_path : List ListedDir → Option ℕ → List ℕ → List ℕ
mounted_path listing None path = path
mounted_path listing (Some number) path = unwrap_or (only_path (paths_of listing number)) path

-- so of the heat of a fragment
abbrev pub mounted_heat : List ListedDir → PathHeat → PathHeat
mounted_heat listing h = record h { path = mounted_path listing h.inode h.path }

-- the inode number in the name of its fragment
abbrev pub fragment_number : Option (List ℕ) → Option ℕ
fragment_number None = None
fragment_number (Some fragment) = inode_of fragment

abbrev pub mounted_root : List ListedDir → RootData → RootData
mounted_root listing root = record root { path = mounted_path listing (fragment_number root.fragment) root.path }
