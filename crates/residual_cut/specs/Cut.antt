-- What a cut of the rows at a bound is.
use Rattle.std.specs.Prelude.{◌≡◌, ◌<◌, ◌≤◌, ◌+◌, ℕ, List, length, slice_index}
use Rattle.mds_types.specs.declared.problem.ProblemRow.{ProblemRow}
use Rattle.mds_types.specs.Certificate.{IsPartition}
use Rattle.mds_types.specs.CutTable.{IsCutTable, cuts_at}
use Rattle.mds_types.specs.Division.{IsDivision, IsWithin, part_count}
use Rattle.mds_types.specs.Problem.{heat_at}
use Rattle.residual_cut.specs.declared.cut.Cut.{Cut}

-- before each row is a row of each part with a smaller number: parts are numbered by rising top row
abbrev pub IsRising : List ProblemRow → (ℕ → ℕ) → Type 0
IsRising rows label = (i p : ℕ) → i < length rows → p < label i → (j : ℕ) × (j < i) × (label j ≡ p)

-- a cut of the rows into the fewest connected parts whose heat is within the bound, and the table that shows it
pub record IsCut (rows : List ProblemRow) (bound : ℕ) (cut : Cut) : Type 0 where
  pub size : length cut.part.items ≡ length rows
  pub parts : IsPartition rows cut.count (slice_index cut.part.items)
  pub within : IsWithin rows cut.count (slice_index cut.part.items) bound
  pub rising : IsRising rows (slice_index cut.part.items)
  pub table : IsCutTable rows cut.rows.items bound
  pub fewest : (k : ℕ) (label : ℕ → ℕ) → IsDivision rows k label → IsWithin rows k label bound
      → cut.count ≤ part_count rows k label
  pub counted : 0 < length rows → cut.count ≡ cuts_at cut.rows.items 0 + 1

-- the least row that is hotter than the bound
pub record IsFirstHot (rows : List ProblemRow) (bound i : ℕ) : Type 0 where
  pub inside : i < length rows
  pub hot : bound < heat_at rows i
  pub first : (j : ℕ) → j < i → heat_at rows j ≤ bound
