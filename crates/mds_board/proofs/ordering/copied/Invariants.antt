use Rattle.std.proofs.Common.{◌≡◌, take}
use Rattle.mds_board.proofs.ordering.copied.Given as goal

abbrev pub invariant-loop-order : goal.invariant-loop-order
invariant-loop-order l = l.copies.items ≡ take l.order-index l.orders
