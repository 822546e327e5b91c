use Rattle.dirtree.proofs.TreeFacts.{child_any}
use Rattle.dirtree.proofs.laws.parents_have_children.Goals as goal

pub returns : goal.returns
returns c = child_any
