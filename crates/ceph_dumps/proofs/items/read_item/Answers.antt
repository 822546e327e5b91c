use Rattle.std.proofs.Common.{◌∙◌}
use Rattle.std.proofs.lemmas.Result.{err_from_is_err_and}
use Rattle.ceph_dumps.proofs.Keeping.{unsaid_by_kept}
use Rattle.ceph_dumps.proofs.items.read_item.Goals as goal

pub returns-in_err-value-clause-none : goal.returns-in_err-value-clause-none
returns-in_err-value-clause-none g c =
    let e = err_from_is_err_and c.from_residual.result c.from_residual.ensures.1 in
    rw e.1 (λ other. unsaid_by_kept g.T.Item.said g.T.Item.kept g.met.T.Item.law _ (c.in_err-value.ensures.none (λ memory. other (e.2 ∙ memory))))
