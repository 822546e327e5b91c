use Rattle.std.proofs.Common.{inl, inr, sym, ◌∙◌}
use Rattle.mds_board.specs.declared.change.Answer.TheVariants as answer
use Rattle.mds_board.specs.declared.change.Change.TheVariants.{Step}
use Rattle.mds_board.specs.Steps.{spelled}
use Rattle.phased_board.proofs.Ordering.{none_by}
use Rattle.phased_board.specs.Stops.{ranks_of}
use Rattle.phased_board.proofs.GoingOn.{answers_on}
use Rattle.phased_board.proofs.phased.PhasedExportSide.step.Goals as goal

pub invariant_of-self : goal.invariant_of-self
invariant_of-self g c = (
  answers_on g.K.Phase.requests g.K.Phase.exports (ranks_of g.K.Phase.stops) g.K.Phase.before g.K.Phase.orders c.self.inside.board
      c.self.inside.standings.items c.self.inside.tickets (Step c.args.event)
      (spelled answer.Reply c.step-stepped.result) c.step-stepped.new.self c.self.invariant.0
      (inr (inl (sym c.self.invariant.1 ∙ c.if-self.true, c.requires.ours)))
      (none_by c.args.event c.requires.later) c.step-stepped.ensures,
  c.self.invariant.1,
  c.note.ensures,
)
