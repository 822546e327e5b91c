-- Which pins of an earlier plan stay as they are.
use Rattle.std.specs.Prelude.{◌==◌, ◌&&◌, ℕ, Bool, not, is_some, List}
use Rattle.std.specs.List.{list_any}
use Rattle.ceph_plan.specs.declared.row.PinChange.{PinChange}
use Rattle.ceph_plan.specs.declared.row.PinRow.{PinRow}
use Rattle.ceph_plan.specs.Rule.{row_at}

-- some change is one of row i
abbrev pub is_changed : List PinChange → ℕ → Bool
is_changed changes i = list_any (λ (change : PinChange). change.row == i) changes

-- row i has a pin of an earlier plan that no change takes
abbrev pub is_standing : List PinRow → List PinChange → ℕ → Bool
is_standing rows changes i = is_some (row_at rows i).earlier && not (is_changed changes i)
