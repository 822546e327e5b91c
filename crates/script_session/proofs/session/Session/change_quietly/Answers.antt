use Rattle.std.proofs.Common.{◌≡◌, ◌∙◌, sym, ap, refl, subst, Option, Some, IfSome, OnOk, true, []}
use Rattle.std.proofs.lemmas.Option.{IfSome_then}
use Rattle.std.proofs.lemmas.Result.{on_ok_weaker}
use Rattle.script_commands.specs.View.{asked_view}
use Rattle.script_board.specs.Board.{BoardData}
use Rattle.script_session.specs.Printed.{only_lines}
use Rattle.script_session.specs.Session.{IsDone, SessionData}
use Rattle.script_session.proofs.session.Session.change_quietly.Goals as goal

pub returns-clause-done : goal.returns-clause-done
returns-clause-done g c =
    let limit = c.self.inside.limit in
    let after = c.change_quietly.new.board in
    let was : SessionData = record { limit = limit; board = Some c.in-Some.board } in
    let same : was ≡ c.args.self.now = ap (λ (o : Option BoardData). record { limit = limit; board = o }) (sym c.in-Some.is) ∙ c.self.view_is in
    subst (λ (s : SessionData). IfSome c.change_quietly.result
    (λ changed. OnOk changed (IsDone s (asked_view c.args.what.now) (only_lines []) true
    (record { limit = limit; board = Some after })))) same
    (rw (c.in-Asks.is) (IfSome_then c.change_quietly.result c.change_quietly.ensures.done
    (λ changed done. on_ok_weaker changed (λ does. (after, does, refl)) done)))
