use Rattle.std.proofs.Common.{inl, inr}
use Rattle.std.proofs.lemmas.Result.{err_from_is_err_and}
use Rattle.mdbal_ceph.proofs.collected.read_named.Goals as goal

pub returns-clause-named : goal.returns-clause-named
returns-clause-named g c = record {
  snapshot = c.in_ok-snapshot.snapshot;
  ranks = c.in_ok-snapshot.ensures.ranks;
  pins = c.in_ok-own.own;
  pins_of = c.in_ok-own.ensures.own;
  paths = rw (c.deref.ensures.value, c.listed.ensures) at c.in_ok-text.ensures;
}

pub returns-in_err-snapshot-clause-failed : goal.returns-in_err-snapshot-clause-failed
returns-in_err-snapshot-clause-failed g c =
    let e = err_from_is_err_and c.from_residual.result c.from_residual.ensures.1 in
    rw (e.1, e.2) (inl c.in_err-snapshot.ensures.failed)

pub returns-in_err-own-clause-failed : goal.returns-in_err-own-clause-failed
returns-in_err-own-clause-failed g c =
    let e = err_from_is_err_and c.from_residual-in_err-own.result c.from_residual-in_err-own.ensures.1 in
    rw (e.1, e.2) (inr c.in_err-own.ensures.failed)

pub returns-in_err-text-clause-failed : goal.returns-in_err-text-clause-failed
returns-in_err-text-clause-failed g c =
    let e = err_from_is_err_and c.from_residual-in_err-text.result c.from_residual-in_err-text.ensures.1 in
    rw (e.1, e.2) (inl tt)
