-- How many roots of subtrees each rank has.
use Rattle.std.specs.Prelude.{◌==◌, ◌||◌, ℕ, Bool, not, is_some, List, length, slice_index, Option}
use Rattle.std.specs.Prelude.{if◌then◌else◌}
use Rattle.mds_types.specs.Sums.{sum_below}
use Rattle.ceph_pins.specs.OwnList.{earlier_pin}
use Rattle.ceph_plan.specs.declared.row.PinChange.{PinChange}
use Rattle.ceph_plan.specs.declared.row.PinRow.{PinRow}
use Rattle.ceph_snapshot.specs.declared.directory.Directory.{Directory}
use Rattle.ceph_snapshot.specs.Holding.{now_at, parent_at, pin_at}
use Rattle.ceph_report.specs.Amounts.{AreAmounts}
use Rattle.ceph_report.specs.Moves.{pin_after}
use Rattle.ceph_report.specs.declared.roots.Roots.{Roots}

-- directory i is the root of a subtree where directories are at these ranks and this program's pins are these: it is
-- the root of the tree, it has a pin of its own, or it is at another rank than the directory above it
abbrev pub is_root : List Directory → (ℕ → ℕ) → (ℕ → Option ℕ) → ℕ → Bool
is_root directories rank own i =
    (i == 0) || (is_some (pin_at directories i) || (is_some (own i)
    || not (rank i == rank (parent_at directories i))))

-- how many of the first n directories are roots at rank r
abbrev pub root_count : List Directory → (ℕ → ℕ) → (ℕ → Option ℕ) → ℕ → ℕ → ℕ
root_count directories rank own r n =
    sum_below n (λ i. if rank i == r then (if is_root directories rank own i then 1 else 0) else 0)

-- before the changes and after them
pub record AreRoots (directories : List Directory) (rows : List PinRow) (changes : List PinChange) (goals : List ℕ)
    (roots : Roots) : Type 0 where
  pub now : AreAmounts roots.now.items
      (λ r. root_count directories (now_at directories) (earlier_pin rows) r (length rows))
  pub planned : AreAmounts roots.planned.items
      (λ r. root_count directories (slice_index goals) (pin_after rows changes) r (length rows))
