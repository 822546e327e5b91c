use Rattle.std.proofs.Common.{◌≡◌, ◌≤◌, List, length, take}
use Rattle.std.specs.List.{count_by}
use Rattle.std.specs.Vec.{vec_len, vec_capacity}
use Rattle.mds_board.specs.History.{World}
use Rattle.mds_types.specs.declared.order.Order.{Order}
use Rattle.phased_board.specs.Asked.{AreAsked, is_begun}
use Rattle.phased_board.specs.Outcomes.{AreOutcomes, is_started}
use Rattle.phased_board.proofs.closing.tell.Given as goal

-- the orders so far have their outcomes, and there is room for the rest
abbrev pub invariant-loop-standing : goal.invariant-loop-standing
invariant-loop-standing l = record {
  told : (first now : World) (orders : List Order) → now.state.cluster ≡ l.cluster.world → AreAsked first now orders l.standings
      → AreOutcomes first now (take l.standing-index orders) l.outcomes.items;
  counted : count_by is_started l.outcomes.items ≡ count_by is_begun (take l.standing-index l.standings);
  count : vec_len l.outcomes ≡ l.standing-index;
  room : length l.standings ≤ vec_capacity l.outcomes;
}
