-- How a script's lines lengthen the history of its board.
use Rattle.std.specs.Prelude.{◌≡◌, List, ◌++◌, Option, Some, None}
use Rattle.mds_board.specs.declared.entry.Entry.{Entry}
use Rattle.script_board.specs.Board.{BoardData}

-- the one is a beginning of the other
abbrev pub IsBeginning : List Entry → List Entry → Type 0
IsBeginning first all = (more : List Entry) × (all ≡ first ++ more)

-- A board stays, and its history is a beginning of the one after.
abbrev pub GoesOn : Option BoardData → Option BoardData → Type 0
GoesOn None new = Unit {0}
GoesOn (Some b) (Some c) = IsBeginning b.world.history c.world.history
GoesOn (Some b) None = ⊥
