use Rattle.std.proofs.Common.{◌≡◌, ◌∙◌, Some, ap, refl, sym}
use Rattle.mds_board.specs.History.{World}
use Rattle.mds_board.proofs.Forced.{read_in_force, shown_of}
use Rattle.mds_board.proofs.board.Board.plan_in_force.Goals as goal

pub returns-in-Some-clause-best : goal.returns-in-Some-clause-best
returns-in-Some-clause-best g c =
    let held = shown_of c.args.self.now c.self.inside.state c.self.inside.history.entries c.self.view_is c.self.invariant in
    let history = ap (λ (w : World). w.history) c.self.view_is in
    let force : c.args.self.now.state.in_force ≡ Some c.in-Some.force = sym c.in_force.ensures ∙ c.in-Some.is in
    read_in_force c.args.self.now c.adopted_at.result held (c.adopted_at.ensures ∙ rw (history, c.event.ensures, force) refl)
