use Rattle.std.proofs.Common.{List, inr, refl, subst, sym}
use Rattle.std.specs.Prelude.{IfErr, OnOk}
use Rattle.export_protocol.specs.declared.event.Event.{Event}
use Rattle.mds_board.specs.declared.change.Answer.TheVariants as answer
use Rattle.mds_board.specs.declared.change.Change.TheVariants as change
use Rattle.mds_board.specs.Steps.{spelled}
use Rattle.phased_board.specs.Stops.{IsStopped, ranks_of}
use Rattle.phased_board.specs.Moments.{IsMet}
use Rattle.phased_board.proofs.Going.{went_any}
use Rattle.mds_board.specs.declared.entry.Entry.{Entry}
use Rattle.phased_board.proofs.GoingOn.{answers_on}
use Rattle.phased_board.proofs.Stopped.{refused_by, stopped_by}
use Rattle.phased_board.proofs.phased.Phased.stop.Goals as goal

pub invariant_of-self : goal.invariant_of-self
invariant_of-self g c = (
  answers_on g.K.Phase.requests g.K.Phase.exports (ranks_of g.K.Phase.stops) g.K.Phase.before g.K.Phase.orders c.self.inside.board
      c.self.inside.standings.items c.self.inside.tickets (change.Step (Event.Stop c.args.rank))
      (spelled answer.Reply c.step-stopped.result) c.step-stopped.new.self c.self.invariant.0 (inr (inr c.requires)) refl c.step-stopped.ensures,
  c.self.invariant.1,
  c.tell.ensures.log,
)

pub returns-clause-stopped : goal.returns-clause-stopped
returns-clause-stopped g c =
    subst (λ (l : List Entry). OnOk c.refusal_of.result (IsStopped g.K.Phase.before l c.args.rank)) (sym c.tell.ensures.seen)
    (stopped_by (ranks_of g.K.Phase.stops) g.K.Phase.before c.self.inside.board c.step-stopped.new.self c.args.rank c.step-stopped.result
    c.refusal_of.result c.refusal_of.ensures.done
    (went_any g.K.Phase.requests g.K.Phase.exports (ranks_of g.K.Phase.stops) g.K.Phase.before c.self.inside.board c.self.invariant.0.went)
    c.step-stopped.ensures)

pub returns-clause-refused : goal.returns-clause-refused
returns-clause-refused g c =
    subst (λ (l : List Entry). IfErr c.refusal_of.result (λ e. IsMet g.K.Phase.before l (change.Step (Event.Stop c.args.rank)) e)) (sym c.tell.ensures.seen)
    (refused_by (ranks_of g.K.Phase.stops) g.K.Phase.before c.self.inside.board c.step-stopped.new.self c.args.rank c.step-stopped.result
    c.refusal_of.result c.refusal_of.ensures.refused
    (went_any g.K.Phase.requests g.K.Phase.exports (ranks_of g.K.Phase.stops) g.K.Phase.before c.self.inside.board c.self.invariant.0.went)
    c.step-stopped.ensures)
