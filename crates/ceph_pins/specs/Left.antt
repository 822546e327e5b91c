-- Directories that are to be left where they are.
use Rattle.std.specs.Prelude.{◌≡◌, ◌⊎◌, ◌++◌, ◌∷◌, ℕ, List, Some, slice_get}

-- a path is this one, or one below it
abbrev pub LiesIn : List ℕ → List ℕ → Type 0
LiesIn above path = (path ≡ above) ⊎ ((rest : List ℕ) × (path ≡ above ++ 47 ∷ rest))

-- a directory that is to be left: one of the list, one below it, or one above it, as what has no pin goes with what is
-- above it
abbrev pub IsLeftBy : List ℕ → List ℕ → Type 0
IsLeftBy listed path = LiesIn listed path ⊎ LiesIn path listed

pub record IsLeft (list : List (List ℕ)) (path : List ℕ) : Type 0 where
  pub at : ℕ
  pub listed : List ℕ
  pub there : slice_get list at ≡ Some listed
  pub by : IsLeftBy listed path
