use Rattle.std.proofs.Common.{decimal, ◌∙◌}
use Rattle.std.proofs.lemmas.Result.{on_err_weaker}
use Rattle.script_engine.proofs.KnownLemmas.{front_same, refused_pieces}
use Rattle.script_engine.proofs.writes.write_named.Goals as goal

pub returns-clause-err : goal.returns-clause-err
returns-clause-err g c =
    on_err_weaker c.write_pieces.result
    (front_same _ _ _ _ (refused_pieces c.as_bytes-number.result.now (decimal c.args.number) c.as_bytes-name.result.now
    c.as_bytes-gap.result.now c.as_bytes-value.result.now _ _ _ (c.as_bytes-number.ensures.value ∙ c.format.ensures.text)
    c.as_bytes-name.ensures.value c.as_bytes-gap.ensures.value c.as_bytes-value.ensures.value))
    c.write_pieces.ensures.err
