-- What a command prints.
use Rattle.std.specs.List.{flat_map}
use Rattle.std.specs.Prelude.{ℕ, List, []}
use Rattle.script_board.specs.declared.fault.Fault.{Fault}

-- lines, and then the refusals that requests and deposits met
pub record Printed : Type 0 where
  pub lines : List (List ℕ)
  pub refused : List Fault

abbrev pub only_lines : List (List ℕ) → Printed
only_lines lines = record { lines = lines; refused = [] }

-- lines one after another, each with its newline
abbrev pub joined : List (List ℕ) → List ℕ
joined lines = flat_map (λ line. line) lines
