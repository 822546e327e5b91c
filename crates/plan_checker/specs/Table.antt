-- What a table says row by row.
use Rattle.std.specs.Prelude.{◌≡◌, ◌<◌, ◌≤◌, ◌+◌, ◌-◌, ◌^◌, ℕ, List, true, false, min, slice_index_or, if◌then◌else◌}
use Rattle.mds_types.specs.declared.cut_proof.Row.{Row}
use Rattle.mds_types.specs.declared.problem.ProblemRow.{ProblemRow}
use Rattle.mds_types.specs.CutTable.{no_cut, cuts_at, is_cut_at, rest_at, sum_of_children}
use Rattle.mds_types.specs.Problem.{parent_at, row_at}
use Rattle.plan_checker.specs.declared.gathered.Gathered.{Gathered}

-- what a row adds to its parent's rest
abbrev pub kept_rest : Row → ℕ
kept_rest row = if row.cut then 0 else row.rest

-- what a row adds to its parent's cuts
abbrev pub all_cuts : Row → ℕ
all_cuts row = row.cuts + (if row.cut then 1 else 0)

-- the rests of the children of row i that aren't cut
abbrev pub kept_of_children : List ProblemRow → List Row → ℕ → ℕ
kept_of_children rows table i = sum_of_children rows i (λ j. if is_cut_at table j then 0 else rest_at table j)

-- the cuts of the children of row i, and one more for each that is cut
abbrev pub cuts_of_children : List ProblemRow → List Row → ℕ → ℕ
cuts_of_children rows table i = sum_of_children rows i (λ j. cuts_at table j + (if is_cut_at table j then 1 else 0))

-- a sum that ends at the greatest number of 64 bits
abbrev pub capped : ℕ → ℕ
capped sum = min sum (2 ^ 64 - 1)

-- what a row without children gets
abbrev pub nothing : Gathered
nothing = record { rests = 0; cuts = 0 }

-- what a table's row says, given the sums over its children
pub record RowHolds (row : ProblemRow) (in_table : Row) (rests cuts bound : ℕ) : Type 0 where
  pub heat : row.heat ≤ bound
  pub rest_is : in_table.rest ≡ row.heat + rests
  pub rest_within : in_table.rest ≤ bound
  pub cuts_is : in_table.cuts ≡ cuts

-- what a table says of a parent and its child
pub record ChildHolds (parent child : Row) (bound : ℕ) : Type 0 where
  pub kept : child.cut ≡ false → child.rest ≤ parent.price
  pub cut : child.cut ≡ true → parent.price ≤ child.rest
  pub full : child.cut ≡ true → bound < parent.rest + parent.price

-- what a table says of row i, and of row i and its parent, given the sums over the children of row i
abbrev pub HoldsAt : List ProblemRow → List Row → ℕ → ℕ → ℕ → ℕ → Type 0
HoldsAt rows table rests cuts bound i =
    RowHolds (row_at rows i) (slice_index_or table i no_cut) rests cuts bound
    × (0 < i → ChildHolds (slice_index_or table (parent_at rows i) no_cut) (slice_index_or table i no_cut) bound)

-- the table holds at row i
abbrev pub IsChecked : List ProblemRow → List Row → ℕ → ℕ → Type 0
IsChecked rows table bound i =
    HoldsAt rows table (kept_of_children rows table i) (cuts_of_children rows table i) bound i
