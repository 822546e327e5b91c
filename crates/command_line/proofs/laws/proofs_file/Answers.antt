use Rattle.std.proofs.Common.{refl}
use Rattle.clap.proofs.OnLiterals.{clap_on_literals}
use Rattle.command_line.proofs.laws.proofs_file.Goals as goal

pub returns-clause-accepted : goal.returns-clause-accepted
unfolding clap_on_literals
returns-clause-accepted c = refl

pub returns-clause-named : goal.returns-clause-named
unfolding clap_on_literals
returns-clause-named c = refl

pub returns-clause-none : goal.returns-clause-none
unfolding clap_on_literals
returns-clause-none c = refl
