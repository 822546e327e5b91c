use Rattle.tree_parts.proofs.Unique.{unique}
use Rattle.tree_parts.proofs.order_laws.orders_are_unique.Goals as goal

pub returns : goal.returns
returns c entries now target some others = unique entries now target some others
