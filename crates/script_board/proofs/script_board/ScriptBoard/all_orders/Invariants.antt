use Rattle.std.proofs.Common.{◌≡◌, ◌++◌, take}
use Rattle.mds_board.specs.State.{pin_orders}
use Rattle.script_board.proofs.script_board.ScriptBoard.all_orders.Given as goal

-- the orders of pins, and those of the last plan so far
abbrev pub invariant-loop-order : goal.invariant-loop-order
invariant-loop-order g l = l.orders.items ≡ pin_orders l.self.world.state ++ take l.order-index l.self.kept
