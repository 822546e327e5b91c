use Rattle.std.specs.Io.KnownBytes.{Keeps}
use Rattle.certificate_judge.proofs.reading.read_once.Given as goal

-- interrupted reads take nothing
abbrev pub invariant-loop : goal.invariant-loop
invariant-loop g l = Keeps (g.R.Read.remaining l.fn.reader) (g.R.Read.remaining l.reader)
