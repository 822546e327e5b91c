-- The changes that bring the pins back to what they were before other changes.
use Rattle.std.specs.Prelude.{List, map, reverse}
use Rattle.ceph_plan.specs.Changes.{before_pin}
use Rattle.ceph_plan.specs.declared.row.PinChange.{PinChange}
use Rattle.ceph_plan.specs.declared.row.PinRow.{PinRow}

-- the change that gives the row of a change the pin that it had before
abbrev pub restored : List PinRow → PinChange → PinChange
restored rows change = record { row = change.row; pin = before_pin rows change.row }

-- for each change the one that restores its row's pin, the last change first
abbrev pub inverted : List PinRow → List PinChange → List PinChange
inverted rows changes = reverse (map (restored rows) changes)
