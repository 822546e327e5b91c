-- The changes of pins as the driver of pins reads them.
use Rattle.std.specs.Prelude.{◌++◌, ◌∷◌, ℕ, zero, suc, List, [], Option, length, map, slice_index_or}
use Rattle.std.specs.Option.{option_map_or}
use Rattle.ceph_pins.specs.OwnList.{earlier_pin}
use Rattle.ceph_pins.specs.PinsScript.{inode_of_row, path_at}
use Rattle.ceph_plan.specs.Changes.{before_pin}
use Rattle.ceph_plan.specs.declared.row.PinChange.{PinChange}
use Rattle.ceph_plan.specs.declared.row.PinRow.{PinRow}
use Rattle.ceph_snapshot.specs.declared.directory.Directory.{Directory}
use Rattle.pin_driver.specs.PinPlan.{PlanParts, made_plan}
use Rattle.pin_driver.specs.declared.plan.EarlierPin.{EarlierPin}
use Rattle.pin_driver.specs.declared.plan.PlannedChange.{PlannedChange}

-- a change: path and inode number of its directory, its pin before and after, and the inodes that the pin brings
abbrev pub planned_change : List Directory → List PinRow → List ℕ → PinChange → PlannedChange
planned_change directories rows inodes change =
    record {
      path = path_at directories change.row;
      inode = inode_of_row directories change.row;
      before = before_pin rows change.row;
      after = change.pin;
      inodes = slice_index_or inodes change.row 0;
    }

abbrev pub made_earlier : List ℕ → Option ℕ → ℕ → EarlierPin
made_earlier path inode rank = record { path = path; inode = inode; rank = rank }

-- the pin of this program that directory i has before the changes, if it has one
abbrev pub earlier_of : List Directory → List PinRow → ℕ → List EarlierPin
earlier_of directories rows i =
    option_map_or (λ (rank : ℕ). made_earlier (path_at directories i) (inode_of_row directories i) rank ∷ [])
    (earlier_pin rows i) []

-- and those of the first n directories
abbrev pub earlier_below : List Directory → List PinRow → ℕ → List EarlierPin
earlier_below directories rows zero = []
earlier_below directories rows (suc n) = earlier_below directories rows n ++ earlier_of directories rows n

-- the plan of these changes, in their order
abbrev pub driver_plan : List ℕ → List Directory → List PinRow → List ℕ → List PinChange → PlanParts
driver_plan identity directories rows inodes changes =
    made_plan identity (map (planned_change directories rows inodes) changes)
    (earlier_below directories rows (length rows))
