use Rattle.std.proofs.Common.{refl, inr}
use Rattle.std.proofs.lemmas.Result.{err_from_is_err_and}
use Rattle.script_engine.specs.Answers.{no_room}
use Rattle.script_engine.proofs.progress.Progress.answer_held.Goals as goal

pub returns-in_err-write_refusal-clause-err : goal.returns-in_err-write_refusal-clause-err
returns-in_err-write_refusal-clause-err g c =
    let p = err_from_is_err_and c.from_residual.result c.from_residual.ensures.1 in
    rw p.1 (λ line same. (no_room c.args.self.now.number, inr (refl, refl), c.in_err-write_refusal.ensures.err))

pub returns-in_ok-write_refusal-clause-ok : goal.returns-in_ok-write_refusal-clause-ok
returns-in_ok-write_refusal-clause-ok g c = λ line same. (no_room c.args.self.now.number, inr (refl, refl), refl, c.in_ok-write_refusal.ensures.ok)
