use Rattle.std.proofs.Common.{◌≡◌, ◌&&◌, ◌++◌, not, false, []}
use Rattle.std.proofs.KnownBytes.{Appends-nil}
use Rattle.std.proofs.lemmas.Result.{err_from_is_err_and}
use Rattle.script_engine.proofs.ProgressLemmas.{over_from, going_strict, going_lax, stays, ends, breaks, holds_line}
use Rattle.script_engine.proofs.progress.Progress.take_line.Goals.{else-strict-via-then-strict+else-not-self, else-strict-via-else-strict}
use Rattle.script_engine.proofs.progress.Progress.take_line.Goals as goal

pub returns-then-not-self-clause-ok : goal.returns-then-not-self-clause-ok
returns-then-not-self-clause-ok g c = λ start bytes text stands. (
  [],
  stays g.I.Interpreter.answers c.args.strict start bytes text _ _ c.args.part.now stands
      (over_from _ _ c.if-strict.true c.if-not-self.true) c.requires.line,
  Appends-nil _,
)

pub returns-clause-ok : goal.returns-clause-ok
returns-clause-ok g c = λ start bytes text stands.
    let going : (c.args.strict && not c.args.self.now.accepted) ≡ false = elim c.else-strict.branch [
      | else-strict-via-then-strict+else-not-self w ↦ going_strict _ _ w.if-not-self.false
      | else-strict-via-else-strict w ↦ going_lax _ _ w.if-strict.false
    ] in
    let begun = c.in_ok-end_line.ensures.begun in
    let answered = c.in_ok-end_line.ensures.ok (stands.rest ++ c.args.part.now) (holds_line stands.rest _ c.args.part.now _ (stands.open_line going)) in (
      answered.0.text,
      ends g.I.Interpreter.answers c.args.strict start bytes text c.args.part.now _ c.end_line.new.interpreter c.args.self.now
          c.end_line.new.self answered.0 stands going c.requires.line answered.1 answered.2 begun.0 begun.1 begun.2,
      answered.3,
    )

pub returns-in_err-end_line-clause-err : goal.returns-in_err-end_line-clause-err
returns-in_err-end_line-clause-err g c =
    let p = err_from_is_err_and c.from_residual.result c.from_residual.ensures.1 in
    rw p.1 (λ start bytes text stands.
    let going : (c.args.strict && not c.args.self.now.accepted) ≡ false = elim c.else-strict.branch [
      | else-strict-via-then-strict+else-not-self w ↦ going_strict _ _ w.if-not-self.false
      | else-strict-via-else-strict w ↦ going_lax _ _ w.if-strict.false
    ] in
    let answered = c.in_err-end_line.ensures.err (stands.rest ++ c.args.part.now) (holds_line stands.rest _ c.args.part.now _ (stands.open_line going)) in (
      answered.0.text,
      breaks g.I.Interpreter.answers c.args.strict start bytes text c.args.part.now _ c.end_line.new.interpreter c.args.self.now answered.0
          stands going c.requires.line answered.1,
      answered.2,
    ))
