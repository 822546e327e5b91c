use Rattle.std.proofs.Common.{sym, ◌-◌}
use Rattle.heat_decay.proofs.Touches.{cooled_out}
use Rattle.heat_decay.proofs.touch.Touch.cooled.Goals as goal

pub returns-then-age-gt40 : goal.returns-then-age-gt40
returns-then-age-gt40 c = sym (cooled_out c.args.self.heat (c.args.ticks - c.args.self.tick) c.requires.cool c.if-age-gt40.true)
