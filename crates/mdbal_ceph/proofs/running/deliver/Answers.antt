use Rattle.std.proofs.Common.{inl, inr, refl}
use Rattle.std.proofs.lemmas.Result.{err_from_is_err_and}
use Rattle.mdbal_ceph.proofs.running.deliver.Goals as goal

pub returns-clause-text : goal.returns-clause-text
returns-clause-text g c = rw c.text.ensures at c.in_ok-print.ensures.text

pub returns-in_err-write_made-clause-failed : goal.returns-in_err-write_made-clause-failed
returns-in_err-write_made-clause-failed g c =
    let e = err_from_is_err_and c.from_residual.result c.from_residual.ensures.1 in
    rw (e.1, e.2) (inl (c.in_err-write_made.ensures.cut, refl))

pub returns-in_err-print-clause-failed : goal.returns-in_err-print-clause-failed
returns-in_err-print-clause-failed g c =
    let e = err_from_is_err_and c.from_residual-in_err-print.result c.from_residual-in_err-print.ensures.1 in
    rw (e.1, e.2) (inr (c.in_ok-write_made.ensures.whole, c.in_err-print.ensures.failed))
