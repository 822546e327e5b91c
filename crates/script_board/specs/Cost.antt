-- What a division at some tops costs.
use Rattle.std.specs.Prelude.{◌≡◌, ℕ, true, List, [], ◌∷◌, All, Option, Some, None, Result, Ok, Err}
use Rattle.dirtree.specs.Tree.{is_there}
use Rattle.dir_pins.specs.Pins.{nearest_pin}
use Rattle.tree_parts.specs.declared.division.Part.{Part}
use Rattle.tree_parts.specs.Parts.{parts}
use Rattle.script_board.specs.declared.fault.Fault.{Fault}
use Rattle.script_board.specs.declared.fault.Fault.TheVariants.{Pinned}
use Rattle.script_board.specs.Board.{BoardData}
use Rattle.script_board.specs.Commands.{find, ◌>>=◌}

-- the directory, if no pin holds it
abbrev pub unless_pinned : Option ℕ → ℕ → Result ℕ Fault
unless_pinned None d = Ok d
unless_pinned (Some rank) d = Err Pinned

-- the top that a path names
abbrev pub top : BoardData → List ℕ → Result ℕ Fault
top b path =
    find b path >>= λ d. unless_pinned (nearest_pin b.world.state.directories.entries b.world.state.pins.own d) d

-- the tops that paths name, from left to right
abbrev pub tops : BoardData → List (List ℕ) → Result (List ℕ) Fault
tops b [] = Ok []
tops b (path ∷ paths) = top b path >>= λ d. tops b paths >>= λ more. Ok (d ∷ more)

-- the parts below the tops that paths name
abbrev pub cost : BoardData → List (List ℕ) → Result (List Part) Fault
cost b paths =
    tops b paths >>= λ ts. Ok
    (parts b.world.state.directories.entries b.world.state.pins.own b.world.state.heats.heats ts)

-- the tops of these parts are directories of the board
abbrev pub AreThere : BoardData → List Part → Type 0
AreThere b ps = All (λ p. is_there b.world.state.directories.entries p.top ≡ true) ps
