use Rattle.std.proofs.Common.{◌∙◌, append_assoc}
use Rattle.std.proofs.lemmas.Result.{on_ok_weaker}
use Rattle.script_session.proofs.stat.cluster_line.Goals as goal

pub returns : goal.returns
returns g c = on_ok_weaker c.write.result
    (λ e. e ∙ simp (append_assoc, c.clear.ensures.bytes, c.active-active.ensures, c.len-usable.ensures.count, c.usable.ensures, c.requires))
    c.write.ensures.bytes
