-- How a tree keeps its directories.
use Rattle.std.specs.Prelude.{◌≡◌, ℕ, ◌<◌, ◌≤◌, ◌/◌, ◌^◌, ◌==◌, Bool, true, false, List, map, length, drop}
use Rattle.std.specs.Prelude.{count_by, fold, slice_index_or, Option, Some, None}
use Rattle.std.specs.Option.{option_map, option_map_or}
use Rattle.std.specs.Hash as fed
use Rattle.std.specs.Hash.FoldHasher as folding
use Rattle.std.specs.declared.hash.FoldHasher.{FoldHasher}
use Rattle.dirtree.specs.declared.node.Node.{Node}
use Rattle.dirtree.specs.Tree.{Entry, IsTree, entry_at, is_there}

abbrev pub entry_of : Node → Entry
entry_of n = record { parent = n.parent; name = n.name; inodes = n.inodes }

abbrev pub entries_of : List (Option Node) → List (Option Entry)
entries_of nodes = map (option_map entry_of) nodes

-- whose child a directory is, and by which name
pub record Key : Type 0 where
  pub parent : ℕ
  pub name : List ℕ

abbrev pub key : ℕ → List ℕ → Key
key p name = record { parent = p; name = name }

abbrev pub key_of : Entry → Key
key_of e = record { parent = e.parent; name = e.name }

abbrev pub key_at : List (Option Entry) → ℕ → Option Key
key_at entries d = option_map key_of (entry_at entries d)

-- the chain of a parent and a name
unfoldable pub chain_of : FoldHasher → ℕ → List ℕ → ℕ
chain_of hasher p name = folding.finish (folding.write (fold folding.write hasher (fed.u32 p)) name) / 2 ^ 47

-- the chain in which a directory is, if it is there
abbrev pub place_at : FoldHasher → List (Option Entry) → ℕ → Option ℕ
place_at hasher entries d = option_map (λ k. chain_of hasher k.parent k.name) (key_at entries d)

abbrev pub next_at : List (Option Node) → ℕ → ℕ
next_at nodes d = option_map_or (λ n. n.next) (slice_index_or nodes d None) 0

abbrev pub children_at : List (Option Node) → ℕ → ℕ
children_at nodes d = option_map_or (λ n. n.children) (slice_index_or nodes d None) 0

abbrev pub head_at : List ℕ → ℕ → ℕ
head_at heads chain = slice_index_or heads chain 0

abbrev pub is_child : ℕ → Option Entry → Bool
is_child d e = option_map_or (λ child. child.parent == d) e false

-- how many children a directory has
abbrev pub children_of : List (Option Entry) → ℕ → ℕ
children_of entries d = count_by (is_child d) (drop 1 entries)

-- A chain begins with its greatest number, and each is followed by the next smaller one.
pub record IsChained (place : ℕ → Option ℕ) (next head : ℕ → ℕ) : Type 0 where
  pub begins : (chain : ℕ) → 0 < head chain → place (head chain) ≡ Some chain
  pub follows : (d chain : ℕ) → 0 < d → place d ≡ Some chain → 0 < next d → (next d < d) × (place (next d) ≡ Some chain)
  pub greatest : (d chain : ℕ) → 0 < d → place d ≡ Some chain → d ≤ head chain
  pub nearest : (c d chain : ℕ) → 0 < c → c < d → place c ≡ Some chain → place d ≡ Some chain → c ≤ next d

pub record IsSound (limit : ℕ) (hasher : FoldHasher) (nodes : List (Option Node)) (heads : List ℕ) : Type 0 where
  pub small : limit ≤ 65536
  pub within : length nodes ≤ limit
  pub wide : length heads ≡ 2 ^ 17
  pub tree : IsTree (entries_of nodes)
  pub counted : (d : ℕ) → is_there (entries_of nodes) d ≡ true → children_at nodes d ≡ children_of (entries_of nodes) d
  pub chained : IsChained (place_at hasher (entries_of nodes)) (next_at nodes) (head_at heads)
