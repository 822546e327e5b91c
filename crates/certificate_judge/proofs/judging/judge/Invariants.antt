use Rattle.std.proofs.Common.{List}
use Rattle.plan_text.specs.declared.certificate.Certificate.{Certificate}
use Rattle.certificate_judge.specs.Unjudged.{left}
use Rattle.certificate_judge.proofs.JudgingLemmas.{IsUpTo}
use Rattle.certificate_judge.proofs.judging.judge.Given as goal

-- certificates were judged, and what comes after them is left
abbrev pub invariant-loop-number : goal.invariant-loop-number
invariant-loop-number g l =
    (done : List Certificate) × IsUpTo (g.R.Read.remaining l.fn.reader) (left l.unjudged (g.R.Read.remaining l.reader)) l.number l.answers done
