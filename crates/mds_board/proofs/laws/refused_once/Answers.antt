use Rattle.mds_board.proofs.Refusing.{again, alike, memory}
use Rattle.mds_board.proofs.laws.refused_once.Goals as goal

pub returns-clause-again : goal.returns-clause-again
returns-clause-again c = again

pub returns-clause-alike : goal.returns-clause-alike
returns-clause-alike c = alike

pub returns-clause-memory : goal.returns-clause-memory
returns-clause-memory c = memory
