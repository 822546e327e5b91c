use Rattle.std.proofs.Common.{◌≡◌, ◌++◌, ◌∷◌, map, length, string_bytes}
use Rattle.std.specs.Prelude.{reverse}
use Rattle.std.specs.List.{flat_map}
use Rattle.dirtree.specs.Path.{path_of}
use Rattle.dirtree.proofs.tree.Tree.add_long_way.Given as goal

-- the names that are left come after what is written
abbrev pub invariant-loop-name : goal.invariant-loop-name
invariant-loop-name l = string_bytes l.path ++ flat_map (λ name. 47 ∷ name) (reverse (map (λ name. name.now) l.names.items)) ≡ path_of l.self.entries l.fn.dir

abbrev pub decreases-loop-name : goal.decreases-loop-name
decreases-loop-name l = length l.names.items
