use Rattle.script_session.proofs.SeenLemmas.{seen}
use Rattle.script_session.proofs.laws.line_is_visible.Goals as goal

pub returns : goal.returns
returns c = seen
