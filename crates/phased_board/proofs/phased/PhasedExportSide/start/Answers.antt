use Rattle.std.proofs.Common.{List, false, sym, subst, true, ◌∙◌}
use mathlib.Core.List.{IsPrefix}
use Rattle.mds_board.specs.declared.entry.Entry.{Entry}
use Rattle.phased_board.specs.Going.{added}
use Rattle.phased_board.proofs.Going.{parts_of, went_any}
use Rattle.phased_board.specs.Stops.{ranks_of}
use Rattle.phased_board.proofs.GoingOn.{settles_on}
use Rattle.phased_board.proofs.phased.PhasedExportSide.start.Goals as goal

pub note-requires : goal.note-requires
note-requires g c =
    let was = c.self.inside.board in
    let now = c.settle_at-started.new.board in
    subst (λ (l : List Entry). IsPrefix l now.history) (sym c.self.invariant.2)
    (added was now, sym (parts_of false true was now c.settle_at-started.ensures.went))

pub invariant_of-self : goal.invariant_of-self
invariant_of-self g c =
    let way = c.self.invariant.0 in
    let first = g.K.Phase.before in
    let orders = g.K.Phase.orders in
    let was = c.self.inside.board in
    let settled = c.settle_at-started.ensures in (
      settles_on g.K.Phase.requests g.K.Phase.exports (ranks_of g.K.Phase.stops) first orders was c.settle_at-started.new.board
          c.self.inside.standings.items c.settle_at-started.new.standings.items c.self.inside.tickets
          (sym c.self.invariant.1 ∙ c.if-self.true) way settled.went
          (settled.asked (ranks_of g.K.Phase.stops) first orders
          (went_any g.K.Phase.requests g.K.Phase.exports (ranks_of g.K.Phase.stops) first was way.went) way.asked) settled.counted,
      c.self.invariant.1,
      c.note.ensures,
    )
