-- Connected sets of numbers, over any edges.
use Rattle.std.specs.Prelude.{◌≡◌, ◌⊎◌, ℕ, List, [], ◌∷◌}

-- one is the other's parent. (What names itself is joined to nothing by that.)
abbrev pub IsParentOrChild : (ℕ → ℕ) → ℕ → ℕ → Type 0
IsParentOrChild parent i j = (parent i ≡ j) ⊎ (parent j ≡ i)

-- a chain of members from one to another, with an edge at each step
abbrev pub IsChain : (ℕ → ℕ → Type 0) → (ℕ → Type 0) → ℕ → List ℕ → ℕ → Type 0
IsChain Edge Member from [] to = from ≡ to
IsChain Edge Member from (next ∷ chain) to = Edge from next × Member next × IsChain Edge Member next chain to

-- any two members are joined by a chain of members
abbrev pub IsConnected : (ℕ → ℕ → Type 0) → (ℕ → Type 0) → Type 0
IsConnected Edge Member =
    (i j : ℕ) → Member i → Member j → (chain : List ℕ) × IsChain Edge Member i chain j
