use Rattle.std.proofs.Common.{◌≡◌, ◌↔◌, true}
use Rattle.dirtree.specs.Tree.{is_there}
use Rattle.dirtree.proofs.WaysDown.{way_down}
use Rattle.dirtree.proofs.tree.Tree.is_way_down.Given as goal

-- the path is the way down to the directory exactly if what is left of it is the way down to here
abbrev pub invariant-loop-at : goal.invariant-loop-at
invariant-loop-at l = record {
  there : is_there l.self.entries l.at ≡ true;
  same : (l.fn.path ≡ way_down l.self.entries l.fn.dir) ↔ (l.rest ≡ way_down l.self.entries l.at);
}

-- a parent has a smaller number
abbrev pub decreases-loop-at : goal.decreases-loop-at
decreases-loop-at l = l.at
