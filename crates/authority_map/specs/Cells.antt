-- What the runs' cells hold: 0 for no rank, or the rank and one.
use Rattle.std.specs.Prelude.{◌≡◌, ℕ, ◌+◌, ◌≤◌, List, Option, Some, None}
use Rattle.authority_map.specs.Operations.{Operation, rank_after}
use Rattle.authority_map.specs.Runs.{Hold}
use Rattle.authority_map.specs.declared.runs.Runs.{Runs}

abbrev pub cell_of : Option ℕ → ℕ
cell_of None = 0
cell_of (Some rank) = rank + 1

-- The directories below the limit have the cells of their ranks after the operations, and no two neighbouring runs are
-- alike. No other directory has a rank.
pub record AreCells (limit : ℕ) (runs : Runs) (operations : List Operation) : Type 0 where
  pub held : Hold limit runs (λ dir. cell_of (rank_after operations dir)) 0 0
  pub past : (dir : ℕ) → limit ≤ dir → rank_after operations dir ≡ None
