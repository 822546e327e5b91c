use Rattle.script_session.proofs.HistoryLemmas.{answered_on}
use Rattle.script_session.proofs.laws.histories_grow.Goals as goal

pub returns : goal.returns
returns c = answered_on
