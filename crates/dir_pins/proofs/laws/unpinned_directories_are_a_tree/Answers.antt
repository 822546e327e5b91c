use Rattle.dir_pins.proofs.UnpinnedTree.{unpinned_tree}
use Rattle.dir_pins.proofs.laws.unpinned_directories_are_a_tree.Goals as goal

pub returns : goal.returns
returns c = λ entries own tree. unpinned_tree entries own tree
