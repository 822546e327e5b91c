use Rattle.std.proofs.Common.{◌∙◌, length, List, ap, subst, sym}
use Rattle.phased_board.proofs.Asking.{each_long}
use Rattle.phased_board.specs.Asked.{AreAsked, IsAsked}
use Rattle.phased_board.specs.declared.standing.Standing.{Standing}
use Rattle.phased_board.proofs.Stopped.{all_later}
use Rattle.rank_threads.proofs.exporting.close_exports.Goals as goal

pub tell-requires-clause-room : goal.tell-requires-clause-room
tell-requires-clause-room g c =
    let way = c.into_parts-board.ensures.way in
    let long = each_long (IsAsked g.K.Phase.before c.into_parts-board.result.0) g.K.Phase.orders c.into_parts-board.result.1.items way.asked in
    let same = ap (λ (xs : List Standing). length xs) c.deref.ensures.value in
    let room = c.requires.room in
    rw (same, ← long) room

pub returns-clause-exported : goal.returns-clause-exported
returns-clause-exported g c =
    let first = g.K.Phase.before in
    let orders = g.K.Phase.orders in
    let now = c.into_parts-board.result.0 in
    let way = c.into_parts-board.ensures.way in
    let asked = subst (λ (ss : List Standing). AreAsked first now orders ss) (sym c.deref.ensures.value) way.asked in
    let counted = rw c.deref.ensures.value at c.tell.ensures.counted in
    let same = c.into_parts-board.ensures.same ∙ c.compare.ensures.same in
    record {
      outcomes = c.tell.ensures.told first now orders (sym c.cluster.ensures) asked;
      all = rw counted way.counted;
      stopped = rw same
          (all_later 8 first c.args.stopping.0.seen c.args.phased.history g.K.Phase.stops c.args.stopping.1 c.compare.ensures.before
          c.requires.stopped);
    }
