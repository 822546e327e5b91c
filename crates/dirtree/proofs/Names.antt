-- The nodes of a tree, where one of them changes.
use Rattle.std.proofs.Common.{◌≡◌, ℕ, ◌<◌, List, length, sym, ap, ◌∙◌, arith, set, Option, Some, None, get_or, true}
use Rattle.std.proofs.lemmas.Grind.{common_steps}
use Rattle.std.proofs.Math.Seq.{map-set_same}
use Rattle.std.specs.Option.{option_map}
use Rattle.dirtree.specs.declared.node.Node.{Node}
use Rattle.dirtree.specs.Tree.{is_there}
use Rattle.dirtree.specs.Keeps.{entry_of, entries_of}
use Rattle.dirtree.proofs.Changes.{inside}
use Rattle.dirtree.proofs.Sound.{length-entries}

-- an element that was read is there with any default
pub read_at : (nodes : List (Option Node)) (i : ℕ) (n : Option Node) → i < length nodes → n ≡ get_or nodes i n → get_or nodes i None ≡ n
read_at nodes i n inside is = grind (arith, common_steps)

pub entries_set : (nodes : List (Option Node)) (i : ℕ) (n m : Node) → get_or nodes i None ≡ Some m → entry_of n ≡ entry_of m
    → entries_of (set nodes i (Some n)) ≡ entries_of nodes
entries_set nodes i n m was same = map-set_same (option_map entry_of) nodes i (Some n) None (ap Some same ∙ ap (option_map entry_of) (sym was))

-- where there is a directory, there is a place
pub placed : (nodes : List (Option Node)) (d : ℕ) → is_there (entries_of nodes) d ≡ true → d < length nodes
placed nodes d there = let few : d < length (entries_of nodes) = inside (entries_of nodes) d there in omega (arith, few, length-entries nodes)
