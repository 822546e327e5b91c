use Rattle.std.proofs.Common.{sym, ◌∙◌}
use Rattle.phased_board.proofs.Going.{publish_kept}
use Rattle.phased_board.specs.Stops.{ranks_of}
use Rattle.phased_board.proofs.GoingOn.{publishes_on}
use Rattle.phased_board.proofs.phased.PhasedExportSide.publish.Goals as goal

pub invariant_of-self : goal.invariant_of-self
invariant_of-self g c =
    let was = c.self.inside.board in
    let now = c.publish.new.self in
    let done = c.publish.ensures in (
      publishes_on g.K.Phase.requests g.K.Phase.exports c.publish.result (ranks_of g.K.Phase.stops) g.K.Phase.before g.K.Phase.orders was
          now c.self.inside.standings.items c.self.inside.tickets
          (sym c.self.invariant.1 ∙ c.if-self.true) c.self.invariant.0 done,
      c.self.invariant.1,
      c.self.invariant.2 ∙ sym (publish_kept c.publish.result was now done),
    )
