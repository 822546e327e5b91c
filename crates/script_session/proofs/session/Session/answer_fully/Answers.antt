use Rattle.std.proofs.Common.{◌∙◌}
use Rattle.std.proofs.lemmas.Result.{IfOk-weaker, on_err_weaker}
use Rattle.script_session.proofs.SessionLemmas.{answered, answered_fault}
use Rattle.script_session.proofs.session.Session.answer_fully.Goals as goal

pub returns-in-Ok : goal.returns-in-Ok
returns-in-Ok g c = λ line asks.
    let done = c.in-Ok.ensures.done in (
      IfOk-weaker c.settle.result _ _ (λ accepted told. let t = told done.0 in (
        t.0,
        answered c.args.self.now c.carry_asked.new.self c.settle.new.self c.args.number line _ _ done.0 t.0 asks done.1 t.1,
        t.2,
        t.3,
      )) c.settle.ensures.ok,
      on_err_weaker c.settle.result (λ told. let t = told done.0 in
          (t.0, answered c.args.self.now c.carry_asked.new.self c.settle.new.self c.args.number line _ _ done.0 t.0 asks done.1 t.1, t.2))
          c.settle.ensures.err,
    )

pub returns-in-Err : goal.returns-in-Err
returns-in-Err g c = λ line asks.
    let a = answered_fault c.args.self.now c.refuse.new.self c.args.number line _ c.in-Err.fault asks
    (c.refuse.ensures.same ∙ c.in-Err.ensures.unchanged) c.in-Err.ensures.fault in (
      IfOk-weaker c.refuse.result _ _ (λ accepted told. (a.0, a.1, told.0 ∙ a.2, rw (← a.3) told.1)) c.refuse.ensures.ok,
      on_err_weaker c.refuse.result (λ told. (a.0, a.1, rw (← a.3) told)) c.refuse.ensures.err,
    )
