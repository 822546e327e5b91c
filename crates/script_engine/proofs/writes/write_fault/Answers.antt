use Rattle.std.proofs.Common.{decimal, ◌∙◌}
use Rattle.std.proofs.lemmas.Result.{on_err_weaker}
use Rattle.script_engine.proofs.KnownLemmas.{fault_pieces, front_same}
use Rattle.script_engine.proofs.writes.write_fault.Goals as goal

pub returns-clause-err : goal.returns-clause-err
returns-clause-err g c =
    on_err_weaker c.write_pieces.result
    (front_same _ _ _ _ (fault_pieces c.as_bytes-number.result.now (decimal c.args.number) c.as_bytes.result.now c.args.why.now
    (c.as_bytes-number.ensures.value ∙ c.format.ensures.text) c.as_bytes.ensures.value))
    c.write_pieces.ensures.err
