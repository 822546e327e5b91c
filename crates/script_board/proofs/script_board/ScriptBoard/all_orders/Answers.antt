use Rattle.std.proofs.Common.{◌∙◌, append-nil, sym}
use Rattle.mds_board.specs.State.{pin_orders}
use Rattle.script_board.proofs.script_board.ScriptBoard.all_orders.Goals as goal

pub loop-order-init : goal.loop-order-init
loop-order-init g c = rw (← c.self.view_is) (c.in_ok-orders.ensures ∙ sym (append-nil (pin_orders c.self.inside.board.state)))
