use Rattle.std.proofs.Common.{◌≡◌, take}
use Rattle.std.specs.List.{count_by}
use Rattle.mds_board.specs.History.{World}
use Rattle.phased_board.specs.Asked.{AreAsked, is_begun}
use Rattle.phased_board.proofs.starting.waiting.Given as goal

abbrev pub invariant-loop-order : goal.invariant-loop-order
invariant-loop-order l = record {
  asked : (w : World) → AreAsked w w (take l.order-index l.orders) l.standings.items;
  none : count_by is_begun l.standings.items ≡ 0;
}
