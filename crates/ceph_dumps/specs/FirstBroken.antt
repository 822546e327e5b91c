-- The first line that isn't what it has to be.
use Rattle.std.specs.Prelude.{◌≡◌, ◌+◌, ◌++◌, ℕ, All, List, ◌∷◌, length}

-- the line of this number, counted from 1, isn't, and those before it are
pub record IsFirstBroken (Is : List ℕ → Type 0) (lines : List (List ℕ)) (number : ℕ) : Type 0 where
  pub before : List (List ℕ)
  pub line : List ℕ
  pub behind : List (List ℕ)
  pub whole : lines ≡ before ++ line ∷ behind
  pub counted : number ≡ length before + 1
  pub fine : All Is before
  pub none : ¬ Is line
