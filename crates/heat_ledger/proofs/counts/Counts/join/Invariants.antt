use Rattle.heat_ledger.proofs.Joins.{IsAdded}
use Rattle.heat_ledger.proofs.counts.Counts.join.Given as goal

abbrev pub invariant-loop-j : goal.invariant-loop-j
invariant-loop-j l = IsAdded l.self l.fn.self l.fn.other l.other-inside.kept.entries.items l.j
