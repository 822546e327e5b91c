use Rattle.std.proofs.Common.{subst, sym}
use Rattle.std.proofs.lemmas.Result.{err_from_is_err_and}
use Rattle.certificate_judge.specs.Unjudged.{IsFault, left}
use Rattle.certificate_judge.proofs.unjudged.Unjudged.next.Goals as goal

pub returns-in_err-grow-in-Err-clause-refused : goal.returns-in_err-grow-in-Err-clause-refused
returns-in_err-grow-in-Err-clause-refused g c =
    let fault = err_from_is_err_and c.from_residual.result c.from_residual.ensures.1 in
    rw fault.1 (subst (IsFault (left c.args.self.now (g.R.Read.remaining c.args.reader.now))) (sym fault.2) tt)
