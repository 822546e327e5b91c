-- What a division does within one subtree.
use Rattle.std.specs.Prelude.{◌≡◌, ◌==◌, ◌<◌, ◌≤◌, ◌⊎◌, ◌&&◌, ℕ, zero, suc, Bool}
use Rattle.std.specs.Prelude.{not, nat_lt, List, length, if◌then◌else◌}
use Rattle.mds_types.specs.declared.problem.ProblemRow.{ProblemRow}
use Rattle.mds_types.specs.Problem.{parent_at, heat_at}
use Rattle.mds_types.specs.Sums.{sum_below, count_below, some_below}
use Rattle.mds_types.specs.Division.{joins_parent}

-- the row this many steps above row j; the root is its own parent
abbrev pub climb : List ProblemRow → ℕ → ℕ → ℕ
climb rows zero j = j
climb rows (suc steps) j = parent_at rows (climb rows steps j)

-- row j is in the subtree of row i: a climb from it leads there
abbrev pub in_subtree : List ProblemRow → ℕ → ℕ → Bool
in_subtree rows i j = some_below (suc j) (λ steps. climb rows steps j == i)

-- how many rows below row i are in another part than their parent
abbrev pub edges_below : List ProblemRow → (ℕ → ℕ) → ℕ → ℕ
edges_below rows label i =
    count_below (length rows) (λ j. nat_lt i j && (in_subtree rows i j && not (joins_parent rows label j)))

-- the heat in row i's subtree of the part that row i is in: the piece at the subtree's top
abbrev pub top_heat : List ProblemRow → (ℕ → ℕ) → ℕ → ℕ
top_heat rows label i =
    sum_below (length rows) (λ j. if in_subtree rows i j && (label j == label i) then heat_at rows j else 0)

-- a subtree has more cut edges than a table's row has cuts, or as many and a top piece at least as hot as what is left
abbrev pub IsBeyond : ℕ → ℕ → ℕ → ℕ → Type 0
IsBeyond cuts rest edges heat = (cuts < edges) ⊎ ((cuts ≡ edges) × (rest ≤ heat))
