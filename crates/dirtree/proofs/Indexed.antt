-- An index of a tree's directories by parent and name.
use Rattle.std.proofs.Common.{◌≡◌, ℕ, ◌<◌, true, List, Option, Some}
use Rattle.dirtree.specs.Name.{is_name}
use Rattle.dirtree.specs.Tree.{Entry, root, entry_at, is_there}
use Rattle.dirtree.specs.Keeps.{Key, key, key_at}

-- the root is there, a parent's number is smaller, and the index names each directory but the root, and nothing else
pub record IsIndexed (entries : List (Option Entry)) (indexed : ℕ → List ℕ → Option ℕ) : Type 0 where
  pub rooted : entry_at entries 0 ≡ Some root
  pub above : (d : ℕ) (k : Key) → 0 < d → key_at entries d ≡ Some k → (k.parent < d) × (is_name k.name ≡ true)
  pub held : (p d : ℕ) (name : List ℕ) → indexed p name ≡ Some d → is_there entries p ≡ true
  pub finds : (p d : ℕ) (name : List ℕ) → indexed p name ≡ Some d → (0 < d) × (key_at entries d ≡ Some (key p name))
  pub found : (d : ℕ) (k : Key) → 0 < d → key_at entries d ≡ Some k → indexed k.parent k.name ≡ Some d
