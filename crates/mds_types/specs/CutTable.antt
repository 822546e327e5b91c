-- The table that shows that no division within a bound has fewer parts.
use Rattle.std.specs.Prelude.{◌≡◌, ◌==◌, ◌<◌, ◌≤◌, ◌+◌, ◌&&◌, ℕ, Bool, true, false, List}
use Rattle.std.specs.Prelude.{length, slice_index_or, nat_lt, if◌then◌else◌}
use Rattle.mds_types.specs.declared.problem.ProblemRow.{ProblemRow}
use Rattle.mds_types.specs.declared.cut_proof.Row.{Row}
use Rattle.mds_types.specs.Problem.{parent_at, heat_at}
use Rattle.mds_types.specs.Sums.{sum_below}

-- what is past the table's last row
abbrev pub no_cut : Row
no_cut = record { cuts = 0; rest = 0; price = 0; cut = false }

abbrev pub cuts_at : List Row → ℕ → ℕ
cuts_at table i = (slice_index_or table i no_cut).cuts

abbrev pub rest_at : List Row → ℕ → ℕ
rest_at table i = (slice_index_or table i no_cut).rest

abbrev pub price_at : List Row → ℕ → ℕ
price_at table i = (slice_index_or table i no_cut).price

abbrev pub is_cut_at : List Row → ℕ → Bool
is_cut_at table i = (slice_index_or table i no_cut).cut

-- row j is a child of row i
abbrev pub is_child : List ProblemRow → ℕ → ℕ → Bool
is_child rows i j = nat_lt 0 j && (parent_at rows j == i)

-- the sum of f over the children of row i
abbrev pub sum_of_children : List ProblemRow → ℕ → (ℕ → ℕ) → ℕ
sum_of_children rows i f = sum_below (length rows) (λ j. if is_child rows i j then f j else 0)

-- j is a child of row i, and is cut from it in the table, or is not
pub record IsChildCut (rows : List ProblemRow) (table : List Row) (i j : ℕ) (cut : Bool) : Type 0 where
  pub inside : j < length rows
  pub child : is_child rows i j ≡ true
  pub cut_is : is_cut_at table j ≡ cut

-- what a table against a bound says of row i
pub record IsCutRow (rows : List ProblemRow) (table : List Row) (bound i : ℕ) : Type 0 where
  pub heat : heat_at rows i ≤ bound
  pub rest_is :
      rest_at table i ≡ heat_at rows i + sum_of_children rows i (λ j. if is_cut_at table j then 0 else rest_at table j)
  pub rest_within : rest_at table i ≤ bound
  pub cuts_is :
      cuts_at table i ≡ sum_of_children rows i (λ j. cuts_at table j + (if is_cut_at table j then 1 else 0))
  pub kept : (j : ℕ) → IsChildCut rows table i j false → rest_at table j ≤ price_at table i
  pub cut : (j : ℕ) → IsChildCut rows table i j true → price_at table i ≤ rest_at table j
  pub full : (j : ℕ) → IsChildCut rows table i j true → bound < rest_at table i + price_at table i

-- a table that shows how many parts a bound needs: cuts_at table 0 + 1
pub record IsCutTable (rows : List ProblemRow) (table : List Row) (bound : ℕ) : Type 0 where
  pub size : length table ≡ length rows
  pub top : is_cut_at table 0 ≡ false
  pub each : (i : ℕ) → i < length rows → IsCutRow rows table bound i
