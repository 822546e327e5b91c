use Rattle.heat_decay.proofs.Touches.{opened}
use Rattle.heat_decay.proofs.heat.Heat.resumed.Goals as goal

pub returns : goal.returns
returns c = rw (c.in_ok-touches.ensures.items_if_clones_equal (λ y e. e)) (opened c.args.limit c.args.ticks)
