use Rattle.dir_pins.proofs.UnpinnedTree.{pinned_below}
use Rattle.dir_pins.proofs.laws.nothing_below_a_pin_is_unpinned.Goals as goal

pub returns : goal.returns
returns c = λ entries own d c rank tree held above. pinned_below entries own d c rank tree held above
