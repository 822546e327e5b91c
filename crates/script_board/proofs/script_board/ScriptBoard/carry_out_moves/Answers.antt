use Rattle.std.proofs.Common.{◌++◌, false, true, List, ap, refl, subst, sym, ◌∙◌}
use Rattle.phased_board.specs.Going.{WentOnWithStops}
use Rattle.phased_board.specs.Outcomes.{AreOutcomes}
use Rattle.phased_board.specs.Stops.{AreStopped, ranks_of}
use Rattle.phased_board.specs.declared.breaks.RankStop.{RankStop}
use Rattle.mds_board.specs.History.{World}
use Rattle.mds_types.specs.declared.order.Order.{Order}
use Rattle.rank_threads.specs.Phases.{AreExported}
use Rattle.script_board.specs.declared.fault.Fault.{Fault}
use Rattle.script_board.specs.Board.{BoardData}
use Rattle.script_board.specs.Fault.{unless_done}
use Rattle.script_board.specs.Move.{IsMoved, move_orders}
use Rattle.script_board.proofs.script_board.ScriptBoard.carry_out_moves.Goals as goal

pub returns-in-Ok-done-clause-done : goal.returns-in-Ok-done-clause-done
returns-in-Ok-done-clause-done g c =
    let old : BoardData = record {
      world = c.self.inside.board;
      shares = c.self.inside.shares.items;
      loads = c.self.inside.loads.items;
      kept = c.self.inside.kept.items;
      stops = c.self.inside.stops.items;
    } in
    let now : World = c.export_phase_with_stops-board.result.0 in
    let new : BoardData = record {
      world = now;
      shares = c.self.inside.shares.items;
      loads = c.self.inside.loads.items;
      kept = c.new.result.items;
      stops = c.new-in-Ok-done.result.items;
    } in
    let refused : List Fault = c.tell_rest.new.refused.items in
    let exported : AreExported old.world now c.deref.result.now c.deref-2.result.now c.in-Ok-done.exported =
    rw c.in-Ok-done.is at c.export_phase_with_stops-board.ensures.exported in
    let stopped = c.in-Ok-done.exported.stopped in
    subst (λ (b : BoardData). IsMoved c.args.self refused c.in-Ok.planned.0.items c.in-Ok-done.exported.outcomes.items b) (sym c.whole-after.ensures)
    (subst (λ (b : BoardData). IsMoved b refused c.in-Ok.planned.0.items c.in-Ok-done.exported.outcomes.items new) c.self.view_is (record {
      stopped = stopped;
      orders = c.in-Ok.ensures.orders ∙ ap move_orders (sym c.self.view_is);
      went = subst (λ (l : List RankStop). WentOnWithStops false true (ranks_of l) old.world now) c.deref-2.ensures.value
          c.export_phase_with_stops-board.ensures.board;
      stop = subst (λ (l : List RankStop). AreStopped 8 old.world now.history l stopped) c.deref-2.ensures.value exported.stopped;
      met = c.tell_rest.ensures.told ∙ ap (λ (l : List Fault). l ++ unless_done stopped) c.in-Ok.ensures.none;
      outcomes = subst (λ (l : List Order). AreOutcomes old.world now l c.in-Ok-done.exported.outcomes.items) c.deref.ensures.value
          exported.outcomes;
      all = exported.all;
      forgotten = c.new.ensures.items;
      used = c.new-in-Ok-done.ensures.items;
      shares = refl;
      loads = refl;
    }))
