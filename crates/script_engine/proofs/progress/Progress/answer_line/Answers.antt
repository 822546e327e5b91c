use Rattle.std.proofs.Common.{ℕ, subst}
use Rattle.std.proofs.lemmas.Result.{err_from_is_err_and}
use Rattle.script_engine.specs.Answers.{Takes}
use Rattle.script_engine.proofs.ProgressLemmas.{line_held}
use Rattle.script_engine.proofs.progress.Progress.answer_line.Goals as goal

pub returns-clause-ok : goal.returns-clause-ok
returns-clause-ok g c = λ line same.
    let answered = c.in_ok-accepted.ensures.ok line (line_held line _ _ c.args.part.now _ _ c.hold.ensures.kept same) in (
      answered.0,
      subst (λ (n : ℕ). Takes g.I.Interpreter.answers c.args.interpreter.now n line answered.0 c.answer_held.new.interpreter)
          c.hold.ensures.number answered.1,
      answered.2,
      answered.3,
    )

pub returns-in_err-accepted-clause-err : goal.returns-in_err-accepted-clause-err
returns-in_err-accepted-clause-err g c =
    let p = err_from_is_err_and c.from_residual.result c.from_residual.ensures.1 in
    rw p.1 (λ line same.
    let answered = c.in_err-accepted.ensures.err line (line_held line _ _ c.args.part.now _ _ c.hold.ensures.kept same) in (
      answered.0,
      subst (λ (n : ℕ). Takes g.I.Interpreter.answers c.args.interpreter.now n line answered.0 c.answer_held.new.interpreter)
          c.hold.ensures.number answered.1,
      answered.2,
    ))
