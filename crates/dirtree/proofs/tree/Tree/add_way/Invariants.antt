use Rattle.std.proofs.Common.{◌≡◌, ◌++◌, ◌∷◌, All, map, length, string_bytes, true}
use Rattle.std.specs.Prelude.{reverse}
use Rattle.std.specs.List.{flat_map}
use Rattle.dirtree.specs.Path.{path_of}
use Rattle.dirtree.specs.Tree.{is_there, name_of}
use Rattle.dirtree.proofs.tree.Tree.add_way.Given as goal

-- the names of the directories that are left come after what is written
abbrev pub invariant-loop-at : goal.invariant-loop-at
invariant-loop-at l = record {
  all : All (λ d. is_there l.self.entries d ≡ true) l.way.items;
  path : string_bytes l.path ++ flat_map (λ name. 47 ∷ name) (reverse (map (name_of l.self.entries) l.way.items)) ≡ path_of l.self.entries l.fn.dir;
}

abbrev pub decreases-loop-at : goal.decreases-loop-at
decreases-loop-at l = length l.way.items
