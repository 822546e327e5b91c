-- The children of a row in a list.
use Rattle.std.specs.Prelude.{◌==◌, ℕ, Bool, not, List, sum_by, if◌then◌else◌}
use Rattle.mds_types.specs.declared.cut_proof.Row.{Row}
use Rattle.mds_types.specs.CutTable.{is_cut_at}
use Rattle.residual_cut.specs.declared.child.Child.{Child}

-- how many of the children have this row
abbrev pub row_count : ℕ → List Child → ℕ
row_count j children = sum_by (λ child. if child.row.0 == j then 1 else 0) children

-- row j isn't cut
abbrev pub is_free : List Row → ℕ → Bool
is_free table j = not (is_cut_at table j)
