use Rattle.certificate_judge.proofs.PrintLemmas.{IsLeft}
use Rattle.certificate_judge.proofs.reporting.print.Given as goal

-- what was written and what is left are the line
abbrev pub invariant-loop : goal.invariant-loop
invariant-loop g l = IsLeft (g.W.Write.contents l.fn.writer) (g.W.Write.contents l.writer) l.text l.rest
