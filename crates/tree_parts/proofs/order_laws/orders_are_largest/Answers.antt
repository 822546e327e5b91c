use Rattle.tree_parts.proofs.Sets.{are_orders}
use Rattle.tree_parts.proofs.order_laws.orders_are_largest.Goals as goal

pub returns : goal.returns
returns c entries now target tree = are_orders entries now target tree
