use Rattle.std.specs.Io.KnownBytes.{Keeps}
use Rattle.certificate_judge.specs.Unjudged.{left}
use Rattle.certificate_judge.proofs.unjudged.Unjudged.next.Given as goal

-- what is left stays the same
abbrev pub invariant-loop : goal.invariant-loop
invariant-loop g l = Keeps (left l.fn.self (g.R.Read.remaining l.fn.reader)) (left l.self (g.R.Read.remaining l.reader))
