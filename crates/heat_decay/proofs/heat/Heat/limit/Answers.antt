use Rattle.heat_decay.proofs.Touches.{cool_heats}
use Rattle.heat_decay.proofs.heat.Heat.limit.Goals as goal

pub returns-clause-cool : goal.returns-clause-cool
returns-clause-cool c =
    rw (← c.self.view_is) (cool_heats c.self.inside.touches.items c.self.inside.ticks c.self.invariant.cool)
