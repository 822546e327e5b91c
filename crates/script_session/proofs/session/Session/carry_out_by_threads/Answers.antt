use Rattle.std.proofs.Common.{◌≡◌, Bool, sym, ap, refl, subst, ◌∙◌, Option, Some, IfOk}
use Rattle.std.proofs.lemmas.Result.{IfOk-weaker}
use Rattle.script_commands.specs.Commands as words
use Rattle.script_commands.specs.View.{view}
use Rattle.script_board.specs.Board.{BoardData}
use Rattle.script_session.specs.Done.{shown_at}
use Rattle.script_session.specs.Session.{IsDone, SessionData}
use Rattle.script_session.proofs.session.Session.carry_out_by_threads.Goals as goal

pub returns-clause-done : goal.returns-clause-done
returns-clause-done g c =
    let command : words.Command = view c.args.command in
    let limit = c.self.inside.limit in
    let was : SessionData = record { limit = limit; board = Some c.in-Some.board } in
    let same : was ≡ c.args.self.now = ap (λ (o : Option BoardData). record { limit = limit; board = o })
    (sym c.in-Some.is ∙ c.take.ensures.value) ∙ c.self.view_is in
    let told : IfOk c.carry_out_by_threads-board.result.1
    (λ done. (ample : Bool) × IsDone was (words.Asks command) (shown_at (Some c.carry_out_by_threads-board.result.0) done) ample
    (record { limit = limit; board = Some c.carry_out_by_threads-board.result.0 })) =
    IfOk-weaker c.carry_out_by_threads-board.result.1 _ _ (λ reply done. (done.0, (c.carry_out_by_threads-board.result.0, done.1, refl)))
    c.carry_out_by_threads-board.ensures.done in
    subst (λ (s : SessionData). IfOk c.carry_out_by_threads-board.result.1
    (λ done. (ample : Bool) × IsDone s (words.Asks command) (shown_at c.fill.new.place done) ample
    (record { limit = limit; board = c.fill.new.place }))) same
    (subst (λ (o : Option BoardData). IfOk c.carry_out_by_threads-board.result.1
    (λ done. (ample : Bool) × IsDone was (words.Asks command) (shown_at o done) ample (record { limit = limit; board = o })))
    (sym c.fill.ensures) told)
