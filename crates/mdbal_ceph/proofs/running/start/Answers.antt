use Rattle.std.proofs.Common.{inl, inr, refl}
use Rattle.mdbal_ceph.proofs.running.start.Goals as goal

pub returns-in-Ok : goal.returns-in-Ok
returns-in-Ok g c = inl (c.in-Ok.settings, c.in-Ok.ensures.accepted, c.in-Ok.ensures.settings, c.run.ensures)

pub returns-in-Err : goal.returns-in-Err
returns-in-Err g c = inr (c.in-Err.refused, c.in-Err.ensures.refused, c.print.ensures.status, refl, c.print.ensures.unprinted, c.print.ensures.said)
