use Rattle.std.proofs.Common.{◌≡◌, ℕ, List, Ok, map, take}
use Rattle.script_board.specs.Cost.{tops}
use Rattle.script_board.proofs.script_board.ScriptBoard.check_tops.Given as goal

-- the paths so far name tops
abbrev pub invariant-loop-path : goal.invariant-loop-path
invariant-loop-path g l = (ts : List ℕ) × (tops l.self (map (λ path. path.now) (take l.path-index l.paths)) ≡ Ok ts)
