-- What a part has at each rank, and where its cost is in a table.
use Rattle.std.specs.Prelude.{◌≡◌, ◌==◌, ◌&&◌, ◌<◌, ◌≤◌, ◌+◌, ◌*◌, ◌-◌, ◌^◌, ℕ, nat_le}
use Rattle.std.specs.Prelude.{true, List, All, length, slice_index, if◌then◌else◌}
use Rattle.mds_types.specs.declared.problem.ProblemRow.{ProblemRow}
use Rattle.mds_types.specs.Placing.{cost}
use Rattle.mds_types.specs.Problem.{inodes_at, now_at}
use Rattle.mds_types.specs.RankSet.{has_rank, rank_count}
use Rattle.mds_types.specs.Sums.{sum_below, count_below}

-- the inodes that a rank has of a part now
abbrev pub own_inodes : List ProblemRow → (ℕ → ℕ) → ℕ → ℕ → ℕ
own_inodes rows label part r =
    sum_below (length rows) (λ i. if label i == part && now_at rows i == r then inodes_at rows i else 0)

-- the inodes that a rank has of a part now, in the rows from one on to before another
abbrev pub own_between : List ProblemRow → (ℕ → ℕ) → ℕ → ℕ → ℕ → ℕ → ℕ
own_between rows label from to part r =
    sum_below to (λ i. if nat_le from i && (label i == part && now_at rows i == r) then inodes_at rows i else 0)

-- the inodes of `count` parts by the rank that has them now, in the rows from one on to before another: 64 cells a part
pub record AreSums (rows : List ProblemRow) (label : ℕ → ℕ) (count from to : ℕ) (sums : List ℕ) : Type 0 where
  pub size : length sums ≡ count * 64
  pub cells : (part r : ℕ) → part < count → r < 64
      → slice_index sums (part * 64 + r) ≡ own_between rows label from to part r
  pub small : All (λ sum. sum ≤ (to - from) * 2 ^ 32) sums

-- what the types of the rows from one on to before another hold
pub record AreRows (rows : List ProblemRow) (from to : ℕ) : Type 0 where
  pub ranks : (i : ℕ) → from ≤ i → i < to → now_at rows i < 64
  pub inodes : (i : ℕ) → from ≤ i → i < to → inodes_at rows i < 2 ^ 32

-- the sum of a part's 64 cells
unfoldable pub part_total : List ℕ → ℕ → ℕ
part_total sums part = sum_below 64 (λ r. slice_index sums (part * 64 + r))

-- the place of a rank among the ranks of the set, in rising order
abbrev pub rank_place : ℕ → ℕ → ℕ
rank_place ranks r = count_below r (has_rank ranks)

-- the cost of a part at the rank that has this place, in a table of `width` cells a part
unfoldable pub cell_at_place : List ℕ → ℕ → ℕ → ℕ → ℕ
cell_at_place cells width part place = slice_index cells (part * width + place)

-- the cost of a part at a rank of the set, in a table that has a row a part
abbrev pub cell_at : ℕ → List ℕ → ℕ → ℕ → ℕ
cell_at ranks cells part r = slice_index cells (part * rank_count ranks + rank_place ranks r)

-- what parts move at the ranks that are chosen for them
abbrev pub chosen_cost : ℕ → List ℕ → ℕ → (ℕ → ℕ) → ℕ
chosen_cost ranks cells k rank = sum_below k (λ part. cell_at ranks cells part (rank part))

-- what each of these parts moves at each rank of the set
pub record AreCosts (rows : List ProblemRow) (label : ℕ → ℕ) (count ranks : ℕ) (cells : List ℕ) : Type 0 where
  pub size : length cells ≡ count * rank_count ranks
  pub costs : (part r : ℕ) → part < count → has_rank ranks r ≡ true
      → cell_at ranks cells part r ≡ cost rows label part r
  pub small : All (λ cell. cell ≤ 2 ^ 48) cells

-- what each of these parts moves at each rank of the set, by the inodes that each rank has of it
pub record AreCells (sums : List ℕ) (count ranks : ℕ) (cells : List ℕ) : Type 0 where
  pub size : length cells ≡ count * rank_count ranks
  pub moved : (part r : ℕ) → part < count → has_rank ranks r ≡ true
      → cell_at ranks cells part r + slice_index sums (part * 64 + r) ≡ part_total sums part
  pub small : All (λ cell. cell ≤ 2 ^ 48) cells
