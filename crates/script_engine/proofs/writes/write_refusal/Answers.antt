use Rattle.std.proofs.Common.{rules}
use Rattle.std.proofs.lemmas.Result.{on_err_weaker}
use Rattle.script_engine.proofs.KnownLemmas.{front_same}
use Rattle.script_engine.proofs.writes.write_refusal.Goals as goal

pub returns-in-Number-clause-err : goal.returns-in-Number-clause-err
returns-in-Number-clause-err g c = on_err_weaker c.write_named-in-Number.result (front_same _ _ _ _ (search rules)) c.write_named-in-Number.ensures.err

pub returns-in-Stage-clause-err : goal.returns-in-Stage-clause-err
returns-in-Stage-clause-err g c = on_err_weaker c.write_named-in-Stage.result (front_same _ _ _ _ (search rules)) c.write_named-in-Stage.ensures.err
