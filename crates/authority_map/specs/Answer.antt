-- What a look-up finds, and what a writer has that it hasn't handed to its copies.
use Rattle.std.specs.Prelude.{ℕ, List, Option, Some, None}
use Rattle.authority_map.specs.Operations.{Operation}
use Rattle.authority_map.specs.declared.found.Found.{Found}
use Rattle.authority_map.specs.declared.found.Found.TheVariants.{Rank, NoDir}

abbrev pub found_of : Option ℕ → Found
found_of None = NoDir
found_of (Some rank) = Rank rank

-- the operations that were handed to the copies, those that wait, and for how many more there is room
pub record Queued : Type 0 where
  pub end : List Operation
  pub waiting : List Operation
  pub room : ℕ
