use Rattle.std.proofs.Common.{refl}
use Rattle.clap.proofs.OnLiterals.{clap_on_literals}
use Rattle.command_line.proofs.laws.limits.Goals as goal

pub returns-clause-least : goal.returns-clause-least
unfolding clap_on_literals
returns-clause-least c = refl

pub returns-clause-greatest : goal.returns-clause-greatest
unfolding clap_on_literals
returns-clause-greatest c = refl

pub returns-clause-past : goal.returns-clause-past
unfolding clap_on_literals
returns-clause-past c = refl
