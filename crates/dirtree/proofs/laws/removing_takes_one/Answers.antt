use Rattle.std.proofs.Common.{length-set}
use Rattle.dirtree.proofs.TreeFacts.{removed_tree, removed_entry}
use Rattle.dirtree.proofs.laws.removing_takes_one.Goals as goal

pub returns : goal.returns
returns c = record {
  tree = removed_tree;
  numbers = λ t c. simp length-set;
  entries = λ t c d. removed_entry t.entries c d;
}
