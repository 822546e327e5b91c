use Rattle.std.proofs.Common.{◌≡◌, length}
use Rattle.model_tests.proofs.random.Random.rows.Given as goal

-- a row for each turn
abbrev pub invariant-loop-i : goal.invariant-loop-i
invariant-loop-i l = length l.rows.items ≡ l.i
