-- The prices of a dual proof as lists.
use Rattle.std.specs.Prelude.{ℤ, List}

-- the price of each part, and of each rank of the set in rising order, in inodes
pub record DualData : Type 0 where
  pub part_price : List ℤ
  pub rank_price : List ℤ
