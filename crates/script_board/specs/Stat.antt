-- What a report says of a board.
use Rattle.std.specs.Prelude.{ℕ, List, length, filter, Option}
use Rattle.dirtree.specs.Tree.{Entry, is_there}
use Rattle.dir_pins.specs.Pins.{below}

-- the directories, rising
abbrev pub directories : List (Option Entry) → List ℕ
directories entries = filter (is_there entries) (below (length entries))
