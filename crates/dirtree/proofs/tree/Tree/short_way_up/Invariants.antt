use Rattle.std.proofs.Common.{◌≡◌, ◌++◌, All, map, true}
use Rattle.dirtree.specs.Tree.{is_there, name_of}
use Rattle.dirtree.specs.Path.{names_up}
use Rattle.dirtree.proofs.tree.Tree.short_way_up.Given as goal

-- the directories so far, and then the names from here up
abbrev pub invariant-loop-at : goal.invariant-loop-at
invariant-loop-at l = record {
  there : is_there l.self.entries l.at ≡ true;
  all : All (λ d. is_there l.self.entries d ≡ true) l.way.items;
  names : names_up l.self.entries l.fn.dir ≡ map (name_of l.self.entries) l.way.items ++ names_up l.self.entries l.at;
}

-- a parent has a smaller number
abbrev pub decreases-loop-at : goal.decreases-loop-at
decreases-loop-at l = l.at
