use Rattle.std.proofs.Common.{ap, map, arith, get_or-set_same}
use Rattle.std.proofs.lemmas.List.{length-map}
use Rattle.heat_decay.specs.Heat.{Heats, cooled}
use Rattle.heat_decay.proofs.Touches.{set_now}
use Rattle.heat_decay.proofs.heat.Heat.touch.Goals as goal

pub returns-clause-heats : goal.returns-clause-heats
returns-clause-heats c =
    rw (← c.self.view_is, c.number.ensures)
    (set_now c.self.inside.limit c.self.inside.ticks c.self.inside.touches.items c.args.dir c.args.heat)

pub returns-clause-here : goal.returns-clause-here
returns-clause-here c =
    let touches = c.self.inside.touches.items in
    let ticks = c.self.inside.ticks in
    let set_is = ap (λ (heats : Heats). heats.heats) (set_now c.self.inside.limit ticks touches c.args.dir c.args.heat) in
    let limit = ap (λ (heats : Heats). heats.limit) c.self.view_is in
    rw (c.number.ensures, set_is)
    (get_or-set_same (map (cooled ticks) touches) c.args.dir c.args.heat 0
    (omega (arith, length-map touches (cooled ticks), c.self.invariant.size, limit, c.requires.dir)))
