use Rattle.heat_decay.proofs.Touches.{ticked}
use Rattle.heat_decay.proofs.heat.Heat.tick.Goals as goal

pub returns-clause-ok : goal.returns-clause-ok
returns-clause-ok c =
    rw (← c.self.view_is) (ticked c.self.inside.limit c.self.inside.ticks c.self.inside.touches.items c.self.invariant.past)
