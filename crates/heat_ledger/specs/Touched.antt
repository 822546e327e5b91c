-- Which entries of a row have a count.
use Rattle.std.specs.Prelude.{◌≡◌, ℕ, zero, suc, ◌+◌, ◌==◌, List, [], ◌∷◌, if◌then◌else◌}
use Rattle.heat_ledger.specs.Rows.{at}

-- the counts of each two entries together, which are those of a directory
abbrev pub pair_sums : List ℕ → List ℕ
pair_sums [] = []
pair_sums (x ∷ []) = []
pair_sums (x ∷ y ∷ xs) = (x + y) ∷ pair_sums xs

-- how often an entry is in a list
abbrev pub times : List ℕ → ℕ → ℕ
times [] dir = 0
times (d ∷ ds) dir = if d == dir then 1 + times ds dir else times ds dir

-- 1 where there is a count, otherwise 0
abbrev pub mark : ℕ → ℕ
mark zero = 0
mark (suc count) = 1

-- each entry is in the list once where it has a count, and otherwise not at all
pub record IsTracked (counts touched : List ℕ) : Type 0 where
  pub once : (dir : ℕ) → times touched dir ≡ mark (at counts dir)
