use Rattle.std.proofs.Common.{refl}
use Rattle.clap.proofs.OnLiterals.{clap_on_literals}
use Rattle.command_line.proofs.laws.no_options.Goals as goal

pub returns-clause-accepted : goal.returns-clause-accepted
unfolding clap_on_literals
returns-clause-accepted c = refl

pub returns-clause-limit : goal.returns-clause-limit
unfolding clap_on_literals
returns-clause-limit c = refl

pub returns-clause-strict : goal.returns-clause-strict
unfolding clap_on_literals
returns-clause-strict c = refl

pub returns-clause-quiet : goal.returns-clause-quiet
unfolding clap_on_literals
returns-clause-quiet c = refl
