use Rattle.std.proofs.Common.{◌∙◌, append_assoc}
use Rattle.std.proofs.lemmas.Result.{on_ok_weaker}
use Rattle.script_session.proofs.looks.ranks_line.Goals as goal

pub returns : goal.returns
returns c = on_ok_weaker c.write.result
    (λ e. e ∙ simp (append_assoc, c.clear.ensures.bytes, c.number-from.ensures.value, c.number-to.ensures.value)) c.write.ensures.bytes
