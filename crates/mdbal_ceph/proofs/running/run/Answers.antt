use Rattle.std.proofs.Common.{inl, inr, refl}
use Rattle.mdbal_ceph.proofs.running.run.Goals as goal

pub returns-in-Err : goal.returns-in-Err
returns-in-Err g c = inr (refl, (c.in-Err.error, inl (refl, refl, c.in-Err.ensures.failed), c.explain.ensures))

pub returns-in-Ok-deliver : goal.returns-in-Ok-deliver
returns-in-Ok-deliver g c =
    inl (c.in-Ok.made, c.in-Ok.ensures.made, c.status.ensures, c.in-Ok-deliver.ensures.files, c.in-Ok-deliver.ensures.text, refl)

pub returns : goal.returns
returns g c =
    inr (refl, (c.in-Err-deliver.error, inr (c.in-Ok.made, c.in-Ok.ensures.made, c.in-Err-deliver.ensures.failed), c.explain-in-Err-deliver.ensures))
