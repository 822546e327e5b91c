-- The walk over the rows from the last one up.
use Rattle.std.specs.Prelude.{◌≡◌, ◌≢◌, max, slice_index_or, ◌<◌, ◌≤◌, ◌+◌, ◌&&◌, ℕ, Bool}
use Rattle.std.specs.Prelude.{true, false, nat_le, List, length, if◌then◌else◌}
use Rattle.mds_types.specs.declared.problem.ProblemRow.{ProblemRow}
use Rattle.mds_types.specs.declared.cut_proof.Row.{Row}
use Rattle.mds_types.specs.Problem.{parent_at, heat_at}
use Rattle.mds_types.specs.Sums.{sum_below, count_below}
use Rattle.mds_types.specs.CutTable.{is_child, cuts_at, rest_at, price_at, is_cut_at, no_cut}

-- row j is a child of row v, and is among the rows from m on, which are handled
abbrev pub is_handled : List ProblemRow → ℕ → ℕ → ℕ → Bool
is_handled rows m v j = nat_le m j && is_child rows v j

-- what a walk from the last row up knows once the rows from m on have given what is left of them to their parents.
-- Rows whose parent is before row s are not cut yet.
pub record IsWalk (rows : List ProblemRow) (cuts rest price : ℕ → ℕ) (cut : ℕ → Bool) (bound m s : ℕ) : Type 0 where
  pub rest_is : (v : ℕ) → v < length rows
      → rest v ≡ heat_at rows v
      + sum_below (length rows) (λ j. if is_handled rows m v j then (if cut j then 0 else rest j) else 0)
  pub cuts_is : (v : ℕ) → v < length rows
      → cuts v ≡ sum_below (length rows) (λ j. if is_handled rows m v j then cuts j + (if cut j then 1 else 0) else 0)
  pub kept : (v j : ℕ) → j < length rows → is_handled rows m v j ≡ true → cut j ≡ false → rest j ≤ price v
  pub taken : (v j : ℕ) → j < length rows → is_child rows v j ≡ true → cut j ≡ true → price v ≤ rest j
  pub full : (v j : ℕ) → j < length rows → is_child rows v j ≡ true → cut j ≡ true → bound < rest v + price v
  pub top : cut 0 ≡ false
  pub uncut : (j : ℕ) → j < length rows → parent_at rows j < s → cut j ≡ false
  pub within : (v : ℕ) → m ≤ v → v < length rows → rest v ≤ bound
  pub counted : sum_below m cuts ≡ count_below (length rows) cut
  pub gathered : sum_below m rest ≤ sum_below (length rows) (heat_at rows)

-- the walk's table
pub record IsWalked (rows : List ProblemRow) (table : List Row) (bound m s : ℕ) : Type 0 where
  pub size : length table ≡ length rows
  pub walk : IsWalk rows (cuts_at table) (rest_at table) (price_at table) (is_cut_at table) bound m s

-- a row of the table as the walk starts
abbrev pub first_row : ℕ → Row
first_row heat = record { cuts = 0; rest = heat; price = 0; cut = false }

-- row i has given its cuts and its rest to its parent
pub record IsGivenRow (old new : List Row) (parent i : ℕ) : Type 0 where
  pub here : slice_index_or new parent no_cut ≡ record {
    cuts = cuts_at old parent + cuts_at old i;
    rest = rest_at old parent + rest_at old i;
    price = max (price_at old parent) (rest_at old i);
    cut = is_cut_at old parent;
  }
  pub other : (v : ℕ) → v ≢ parent → slice_index_or new v no_cut ≡ slice_index_or old v no_cut
