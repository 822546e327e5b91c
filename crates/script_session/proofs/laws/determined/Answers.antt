use Rattle.script_session.proofs.OutcomeLemmas.{session_determined}
use Rattle.script_session.proofs.laws.determined.Goals as goal

pub returns : goal.returns
returns c = session_determined
