use Rattle.std.proofs.Common.{◌∙◌, append_assoc}
use Rattle.std.proofs.lemmas.Result.{on_ok_weaker}
use Rattle.script_session.proofs.cost.part_line.Goals as goal

pub returns : goal.returns
returns g c = on_ok_weaker c.write.result
    (λ e. e ∙ simp (append_assoc, c.clear.ensures.bytes, c.as_str-path.ensures.value, c.in_ok-write_path.ensures.path))
    c.write.ensures.bytes
