-- The operations on the map, and what they leave.
use Rattle.std.specs.Prelude.{ℕ, Bool, false, ◌||◌, ◌==◌, List, [], ◌∷◌, Option, Some, None, fold, if◌then◌else◌}

-- the directories get the rank, or the directory has none any more
pub data Operation : Type 0 where
  SetTo : List ℕ → ℕ → Operation
  Clear : ℕ → Operation

-- the directory is among them
abbrev pub names : List ℕ → ℕ → Bool
names [] dir = false
names (x ∷ xs) dir = (x == dir) || names xs dir

-- what a directory's entry is after one more operation
abbrev pub entry_after : ℕ → Option ℕ → Operation → Option ℕ
entry_after dir entry (SetTo dirs rank) = (if names dirs dir then Some rank else entry)
entry_after dir entry (Clear d) = (if d == dir then None else entry)

-- the rank of a directory after these operations, in order from the first
unfoldable pub rank_after : List Operation → ℕ → Option ℕ
rank_after operations dir = fold (entry_after dir) None operations
