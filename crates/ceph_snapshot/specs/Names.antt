-- The numbers of paths, and which path lies below which.
use Rattle.std.specs.Global.{Global}
use Rattle.std.specs.Prelude.{◌≡◌, ◌⊎◌, ◌==◌, ◌++◌, ◌∷◌, ℕ, false, List, Option, Vec}
use Rattle.std.specs.HashMap.{get_by}
use Rattle.std.specs.List.{list_any}
use Rattle.std.specs.Str.{bytes_eq}
use Rattle.ceph_snapshot.specs.declared.names.Names.{Names}

-- the number of a path
abbrev pub path_number : Names → List ℕ → Option ℕ
path_number names path = get_by (λ (key : Vec ℕ Global). bytes_eq path key.items) names.numbers

-- a path is another one with a slash and one more name
pub record IsPathBelow (above path : List ℕ) : Type 0 where
  pub name : List ℕ
  pub whole : path ≡ above ++ 47 ∷ name
  pub single : list_any (λ c. c == 47) name ≡ false

-- a path is another one, or that of a directory which the other lies in
abbrev pub IsAtOrAbove : List ℕ → List ℕ → Type 0
IsAtOrAbove path other = (other ≡ path) ⊎ ((names : List ℕ) × (other ≡ path ++ 47 ∷ names))
