use Rattle.std.proofs.Common.{◌⊎◌, All, take}
use mathlib.Core.List.{IsPrefix}
use Rattle.script_board.proofs.traffic.compare.Given as goal

-- the readers so far are compared
abbrev pub invariant-loop-reader : goal.invariant-loop-reader
invariant-loop-reader g l = All (λ r. IsPrefix r l.board.published ⊎ IsPrefix l.board.published r) (take l.reader-index l.readers)
