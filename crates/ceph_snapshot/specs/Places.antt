-- Where each inode number is in a listing.
use Rattle.std.specs.Prelude.{◌≡◌, ◌<◌, ℕ, List, [], ◌∷◌, Option, Some, None, length, nat_eq, slice_get}
use Rattle.std.specs.HashMap.{HashMap, get}
use Rattle.std.specs.Option.{option_map_or}
use Rattle.ceph_dumps.specs.declared.listing.ListedDir.{ListedDir}
use Rattle.ceph_snapshot.specs.Mounts.{paths_of}

abbrev pub path_listed : List ListedDir → ℕ → List ℕ
path_listed listing i = option_map_or (λ (d : ListedDir). d.path.items) (slice_get listing i) []

-- of the paths that are listed with a number there is none, the one at a place, or more
abbrev pub IsNumberPlace : List ListedDir → List (List ℕ) → Option (Option ℕ) → Type 0
IsNumberPlace listing paths None = paths ≡ []
IsNumberPlace listing paths (Some (Some at)) = (at < length listing) × (paths ≡ path_listed listing at ∷ [])
IsNumberPlace listing paths (Some None) =
    (first : List ℕ) × (second : List ℕ) × (more : List (List ℕ)) × (paths ≡ first ∷ second ∷ more)

abbrev pub ArePlaces : {S : Type 0} → List ListedDir → HashMap ℕ (Option ℕ) S → Type 0
ArePlaces listing places =
    (number : ℕ) → IsNumberPlace listing (paths_of listing number) (get nat_eq places number)
