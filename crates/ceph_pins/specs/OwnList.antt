-- The list of the pins of this program, byte by byte.
use Rattle.std.specs.Prelude.{◌++◌, ℕ, zero, suc, List, [], codes, decimal, length, slice_get, Option, Some}
use Rattle.std.specs.List.{flat_map}
use Rattle.ceph_dumps.specs.OwnList.{name_byte}
use Rattle.ceph_plan.specs.Changes.{applied}
use Rattle.ceph_plan.specs.Rule.{row_at}
use Rattle.ceph_plan.specs.declared.row.PinChange.{PinChange}
use Rattle.ceph_plan.specs.declared.row.PinRow.{PinRow}
use Rattle.ceph_snapshot.specs.declared.directory.Directory.{Directory}

-- the line of a pin
abbrev pub own_line : ℕ → List ℕ → List ℕ
own_line rank path = decimal rank ++ codes " " ++ flat_map name_byte path ++ codes "\n"

-- the line of a directory that has a pin; none where it has none
abbrev pub pin_line_of : Option ℕ → Option Directory → List ℕ
pin_line_of (Some rank) (Some directory) = own_line rank directory.path.items
pin_line_of _ _ = []

-- the lines of the first n directories that have pins, by falling places
abbrev pub own_lines : List Directory → (ℕ → Option ℕ) → ℕ → List ℕ
own_lines directories pins zero = []
own_lines directories pins (suc n) = pin_line_of (pins n) (slice_get directories n) ++ own_lines directories pins n

-- this program's pin of row i
abbrev pub earlier_pin : List PinRow → ℕ → Option ℕ
earlier_pin rows i = (row_at rows i).earlier

-- the list of the pins of this program once these changes are made
abbrev pub own_list : List Directory → List PinRow → List PinChange → List ℕ
own_list directories rows changes = own_lines directories (applied (earlier_pin rows) changes) (length rows)
