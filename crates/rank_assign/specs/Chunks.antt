-- Rows in chunks, and the inodes that a rank has of a part in them.
use Rattle.std.specs.Prelude.{◌≡◌, ◌<◌, ◌≤◌, ◌+◌, ◌*◌, ℕ, min, List, length, slice_index}
use Rattle.mds_types.specs.declared.problem.ProblemRow.{ProblemRow}
use Rattle.plan_checker.specs.Costs.{AreRows, AreSums}

-- each row has one of `count` parts
pub record AreLabelled (rows : List ProblemRow) (part : List ℕ) (count : ℕ) : Type 0 where
  pub few : length rows ≤ 65536
  pub parts : count ≤ 64
  pub size : length part ≡ length rows
  pub below : (i : ℕ) → i < length rows → slice_index part i < count

-- where chunk k begins, of `chunk` rows each and past the first ones
abbrev pub edge : ℕ → ℕ → ℕ → ℕ → ℕ
edge rows first chunk k = min rows (first + k * chunk)

-- the sums of the rows from one on to before another
pub record AreSummed (rows : List ProblemRow) (part : List ℕ) (count from to : ℕ) (sums : List ℕ) : Type 0 where
  pub added : AreSums rows (slice_index part) count from to sums
  pub known : AreRows rows from to
