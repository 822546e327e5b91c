-- The pins that the list of this program's pins tells of, and which of them can be read back.
use Rattle.std.specs.Prelude.{◌≡◌, ◌<◌, ◌^◌, ◌++◌, ◌∷◌, ℕ, zero, suc, List, [], Option, Some}
use Rattle.std.specs.Prelude.{length, slice_get, slice_index}
use Rattle.ceph_dumps.specs.OwnList.{RankPath}
use Rattle.ceph_plan.specs.Changes.{applied}
use Rattle.ceph_plan.specs.declared.row.PinChange.{PinChange}
use Rattle.ceph_plan.specs.declared.row.PinRow.{PinRow}
use Rattle.ceph_pins.specs.OwnList.{earlier_pin}
use Rattle.ceph_snapshot.specs.declared.directory.Directory.{Directory}

-- the rank and the path of a directory that has a pin
abbrev pub own_list_pin : Option ℕ → Option Directory → List RankPath
own_list_pin (Some rank) (Some directory) = (rank, directory.path.items) ∷ []
own_list_pin _ _ = []

-- those of the first n directories, by falling places
abbrev pub pins_down_from : List Directory → (ℕ → Option ℕ) → ℕ → List RankPath
pins_down_from directories pins zero = []
pins_down_from directories pins (suc n) =
    own_list_pin (pins n) (slice_get directories n) ++ pins_down_from directories pins n

-- the pins of this program once these changes are made
abbrev pub own_list_pins : List Directory → List PinRow → List PinChange → List RankPath
own_list_pins directories rows changes =
    pins_down_from directories (applied (earlier_pin rows) changes) (length rows)

-- a rank of 64 bits, and a path that begins with a slash, as that of each directory but the root
abbrev pub IsListable : RankPath → Type 0
IsListable pin = (pin.0 < 2 ^ 64) × (slice_index pin.1 0 ≡ 47)
