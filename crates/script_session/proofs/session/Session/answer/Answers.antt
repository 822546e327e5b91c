use Rattle.std.proofs.Common.{◌∙◌, sym, refl, true, []}
use Rattle.std.proofs.KnownBytes.{Appends-nil}
use Rattle.std.proofs.lemmas.Result.{IfOk-weaker, MatchResult-at_err, MatchResult-at_ok, on_err_weaker}
use Rattle.script_session.specs.Printed.{only_lines}
use Rattle.script_session.proofs.SessionLemmas.{answered, answered_fault, answered_no_room, told_accepted}
use Rattle.script_session.proofs.session.Session.answer.Goals as goal

pub returns-in-Err : goal.returns-in-Err
returns-in-Err g c =
    let a = answered_no_room c.args.self.now c.refuse.new.self c.args.number c.args.line.now c.from.result c.refuse.ensures.same c.from.ensures in (
      IfOk-weaker c.refuse.result _ _ (λ accepted told. (a.0, a.1, told.0 ∙ a.2, rw (← a.3) told.1)) c.refuse.ensures.ok,
      on_err_weaker c.refuse.result (λ told. (a.0, a.1, rw (← a.3) told)) c.refuse.ensures.err,
    )

pub returns-in-Some-Ok : goal.returns-in-Some-Ok
returns-in-Some-Ok g c =
    let told = told_accepted c.args.number (only_lines []) true c.change_quietly.new.self c.publish.new.self refl c.publish.ensures in
    let done = MatchResult-at_ok _ _ _ c.in-Some-Ok.field-0-is c.in-Some-Ok.ensures.done in (
      (
        told.0,
        answered c.args.self.now c.change_quietly.new.self c.publish.new.self c.args.number c.args.line.now _ (only_lines []) true
            told.0 (sym c.in-Ok.ensures.asked) done told.1,
        told.2,
        rw told.3 (Appends-nil (g.W.Write.contents c.args.writer.now)),
      ),
      tt,
    )

pub returns-in-Some-Err : goal.returns-in-Some-Err
returns-in-Some-Err g c =
    let same = MatchResult-at_err _ _ _ c.in-Some-Err.field-0-is c.in-Some-Err.ensures.unchanged in
    let due = MatchResult-at_err _ _ _ c.in-Some-Err.field-0-is c.in-Some-Err.ensures.fault in
    let a = answered_fault c.args.self.now c.refuse-in-Some-Err.new.self c.args.number c.args.line.now _ c.in-Some-Err.fault
    (sym c.in-Ok.ensures.asked) (c.refuse-in-Some-Err.ensures.same ∙ same) due in (
      IfOk-weaker c.refuse-in-Some-Err.result _ _ (λ accepted told. (a.0, a.1, told.0 ∙ a.2, rw (← a.3, ← c.in-Some-Err.fault-is) told.1))
          c.refuse-in-Some-Err.ensures.ok,
      on_err_weaker c.refuse-in-Some-Err.result (λ told. (a.0, a.1, rw (← a.3, ← c.in-Some-Err.fault-is) told)) c.refuse-in-Some-Err.ensures.err,
    )

pub returns : goal.returns
returns g c = rw (← c.change_quietly.ensures.left c.in-None.is) (c.answer_fully.ensures c.args.line.now (sym c.in-Ok.ensures.asked))
