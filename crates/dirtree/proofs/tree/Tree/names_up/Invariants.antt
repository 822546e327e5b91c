use Rattle.std.proofs.Common.{◌≡◌, ◌++◌, map, true}
use Rattle.dirtree.specs.Tree.{is_there}
use Rattle.dirtree.specs.Path.{names_up}
use Rattle.dirtree.proofs.tree.Tree.names_up.Given as goal

-- the names so far, and then those from here up
abbrev pub invariant-loop-at : goal.invariant-loop-at
invariant-loop-at l = record {
  there : is_there l.self.entries l.at ≡ true;
  names : names_up l.self.entries l.fn.dir ≡ map (λ name. name.now) l.names.items ++ names_up l.self.entries l.at;
}

-- a parent has a smaller number
abbrev pub decreases-loop-at : goal.decreases-loop-at
decreases-loop-at l = l.at
