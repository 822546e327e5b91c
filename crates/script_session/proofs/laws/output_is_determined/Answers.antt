use Rattle.std.proofs.Common.{List, ap}
use Rattle.script_engine.specs.Answers.{Answer, text_of}
use Rattle.script_engine.specs.Lines.{lines_of}
use Rattle.script_engine.proofs.RunLemmas.{run_played}
use Rattle.script_session.specs.Outcome.{answer_to, is_sure}
use Rattle.script_session.specs.Session.{answers, beginning}
use Rattle.script_session.proofs.OutcomeLemmas.{session_determined}
use Rattle.script_session.proofs.laws.output_is_determined.Goals as goal

pub returns : goal.returns
returns c = λ limit strict bytes replies last sure run ample.
    ap (λ (rs : List Answer). text_of rs)
    (run_played is_sure answers answer_to strict session_determined (beginning limit) last 1 (lines_of bytes) replies sure run ample).0
