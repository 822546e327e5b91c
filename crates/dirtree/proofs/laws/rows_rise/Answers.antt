use Rattle.dirtree.proofs.TreeFacts.{rows_in_order}
use Rattle.dirtree.proofs.laws.rows_rise.Goals as goal

pub returns : goal.returns
returns c = rows_in_order
