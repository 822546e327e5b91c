use Rattle.std.proofs.Common.{refl}
use Rattle.export_protocol.specs.declared.event.Event.{Event}
use Rattle.mds_board.specs.declared.change.Answer.TheVariants as answer
use Rattle.mds_board.specs.declared.change.Change.TheVariants as change
use Rattle.mds_board.specs.Steps.{spelled}
use Rattle.phased_board.proofs.Going.{went_any}
use Rattle.phased_board.specs.Stops.{ranks_of}
use Rattle.phased_board.proofs.GoingOn.{requests_on}
use Rattle.phased_board.proofs.Later.{met_now}
use Rattle.phased_board.proofs.phased.Phased.end.Goals as goal

pub invariant_of-self : goal.invariant_of-self
invariant_of-self g c = (
  requests_on g.K.Phase.requests g.K.Phase.exports (ranks_of g.K.Phase.stops) g.K.Phase.before g.K.Phase.orders c.self.inside.board
      c.self.inside.standings.items c.self.inside.tickets (change.Step (Event.End c.args.ticket)) (spelled answer.Reply c.step-ended.result)
      c.step-ended.new.self
      c.requires c.self.invariant.0 refl c.step-ended.ensures,
  c.self.invariant.1,
  c.note.ensures,
)

pub returns-clause-refused : goal.returns-clause-refused
returns-clause-refused g c =
    met_now (ranks_of g.K.Phase.stops) g.K.Phase.before c.self.inside.board c.step-ended.new.self (change.Step (Event.End c.args.ticket))
    answer.Reply c.step-ended.result
    (went_any g.K.Phase.requests g.K.Phase.exports (ranks_of g.K.Phase.stops) g.K.Phase.before c.self.inside.board c.self.invariant.0.went) c.step-ended.ensures
