use Rattle.std.proofs.Common.{◌≡◌, Bool, true, sym, ap, refl, subst, ◌∙◌, Option, Some, IfOk}
use Rattle.std.proofs.lemmas.Result.{IfOk-weaker}
use Rattle.script_commands.specs.Commands as words
use Rattle.script_commands.specs.View.{view}
use Rattle.script_board.specs.Board.{BoardData}
use Rattle.script_session.specs.Done.{shown_at}
use Rattle.script_session.specs.Session.{IsDone, SessionData}
use Rattle.script_session.proofs.session.Session.carry_out.Goals as goal

pub returns-in-Some-clause-done : goal.returns-in-Some-clause-done
returns-in-Some-clause-done g c =
    let command : words.Command = view c.args.command in
    let limit = c.self.inside.limit in
    let after = c.change.new.board in
    let was : SessionData = record { limit = limit; board = Some c.in-Some.board } in
    let same : was ≡ c.args.self.now = ap (λ (o : Option BoardData). record { limit = limit; board = o }) (sym c.in-Some.is) ∙ c.self.view_is in
    subst (λ (s : SessionData). IfOk c.change.result (λ done. (ample : Bool)
    × IsDone s (words.Asks command) (shown_at (Some after) done) ample (record { limit = limit; board = Some after }))) same
    (IfOk-weaker c.change.result _ _ (λ reply done. (done.0, (after, done.1, refl))) c.change.ensures.done)

pub returns-in-Ranks-clause-done : goal.returns-in-Ranks-clause-done
returns-in-Ranks-clause-done g c =
    let was : SessionData = record { limit = c.self.inside.limit; board = c.self.inside.board } in
    let new = c.begin.new.self in
    let asks : view c.args.command ≡ words.Ranks c.in-Ranks.active.number = ap view c.in-Ranks.is in
    IfOk-weaker c.begin.result _ _
    (λ done is. (
      true,
      subst (λ (s : SessionData). IsDone s (words.Asks (view c.args.command)) (shown_at new.board done) true new) c.self.view_is
          (subst (λ (command : words.Command). IsDone was (words.Asks command) (shown_at new.board done) true new) (sym asks) is),
    ))
    c.begin.ensures.done
