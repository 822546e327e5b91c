use Rattle.std.proofs.Common.{[], ◌∙◌, append-nil}
use Rattle.std.proofs.KnownBytes.{Appends-nil}
use Rattle.std.proofs.lemmas.Result.{err_from_is_err_and}
use Rattle.script_engine.proofs.EndLemmas.{ends_clean, ends_last, cut_last}
use Rattle.script_engine.proofs.progress.Progress.finish.Goals as goal

pub returns-then-not-has_begun-clause-ok : goal.returns-then-not-has_begun-clause-ok
returns-then-not-has_begun-clause-ok g c = λ strict start bytes text going stands.
    let none = c.if-not-has_begun.ensures stands.rest (stands.open_line going) in
    ([], ends_clean g.I.Interpreter.answers strict start bytes text _ c.args.self.now stands none, Appends-nil _)

pub returns-clause-ok : goal.returns-clause-ok
returns-clause-ok g c = λ strict start bytes text going stands.
    let some = c.if-not-has_begun.ensures stands.rest (stands.open_line going) in
    let answered = c.in_ok-end_line.ensures.ok stands.rest (λ room. append-nil _ ∙ (stands.open_line going).kept room) in (
      answered.0.text,
      ends_last g.I.Interpreter.answers strict start bytes text _ c.end_line.new.interpreter c.args.self.now
          c.end_line.new.self.accepted answered.0 stands going some answered.1 answered.2,
      answered.3,
    )

pub returns-in_err-end_line-clause-err : goal.returns-in_err-end_line-clause-err
returns-in_err-end_line-clause-err g c =
    let p = err_from_is_err_and c.from_residual.result c.from_residual.ensures.1 in
    rw p.1 (λ strict start bytes text going stands.
    let some = c.if-not-has_begun.ensures stands.rest (stands.open_line going) in
    let answered = c.in_err-end_line.ensures.err stands.rest (λ room. append-nil _ ∙ (stands.open_line going).kept room) in (
      answered.0.text,
      cut_last g.I.Interpreter.answers strict start bytes text _ c.end_line.new.interpreter c.args.self.now answered.0
          stands going some answered.1,
      answered.2,
    ))
