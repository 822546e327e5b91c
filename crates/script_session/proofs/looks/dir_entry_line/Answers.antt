use Rattle.std.proofs.Common.{◌∙◌, append_assoc}
use Rattle.std.proofs.lemmas.Result.{on_ok_weaker}
use Rattle.script_session.proofs.looks.dir_entry_line.Goals as goal

pub returns : goal.returns
returns g c = on_ok_weaker c.write.result
    (λ e. e ∙ simp (
      append_assoc,
      c.clear.ensures.bytes,
      c.as_str-path.ensures.value,
      c.in_ok-dir_path.ensures,
      c.number-rank.ensures.value,
      c.number-number.ensures,
    )) c.write.ensures.bytes
