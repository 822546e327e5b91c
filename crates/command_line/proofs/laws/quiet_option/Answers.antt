use Rattle.std.proofs.Common.{refl}
use Rattle.clap.proofs.OnLiterals.{clap_on_literals}
use Rattle.command_line.proofs.laws.quiet_option.Goals as goal

pub returns-clause-accepted : goal.returns-clause-accepted
unfolding clap_on_literals
returns-clause-accepted c = refl

pub returns-clause-quiet : goal.returns-clause-quiet
unfolding clap_on_literals
returns-clause-quiet c = refl
