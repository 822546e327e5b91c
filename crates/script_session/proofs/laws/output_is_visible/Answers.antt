use Rattle.script_engine.specs.Lines.{lines_of}
use Rattle.script_session.specs.Session.{beginning}
use Rattle.script_session.proofs.VisibleLemmas.{like_beginning, visible}
use Rattle.script_session.proofs.laws.output_is_visible.Goals as goal

pub returns : goal.returns
returns c = λ limit strict bytes replies last sure run quiet.
    visible strict 1 (lines_of bytes) replies (beginning limit) last (beginning limit) sure (like_beginning limit) run quiet
