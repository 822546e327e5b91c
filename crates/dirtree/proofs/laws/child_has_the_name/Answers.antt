use Rattle.dirtree.proofs.TreeFacts.{child_named}
use Rattle.dirtree.proofs.laws.child_has_the_name.Goals as goal

pub returns : goal.returns
returns c = child_named
