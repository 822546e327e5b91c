-- What orders are, in the words of sets.
use Rattle.std.specs.Prelude.{◌≡◌, ◌≢◌, ◌<◌, ℕ, true, List, length, map, slice_index, Option, Some, Contains}
use Rattle.std.specs.List.Sorted.{IsStrictlyIncreasing}
use Rattle.mds_types.specs.Connected.{IsConnected, IsParentOrChild}
use Rattle.mds_types.specs.declared.order.Order.{Order}
use Rattle.dirtree.specs.Tree.{Entry, is_there, parent_of}
use Rattle.tree_parts.specs.Moves.{rank_at}

-- d is there, and goes from one rank to another: now has each directory's rank, target the rank where it is to be
pub record Moves (entries : List (Option Entry)) (now target : List (Option ℕ)) (from to d : ℕ) : Type 0 where
  pub there : is_there entries d ≡ true
  pub at : rank_at now d ≡ Some from
  pub aim : rank_at target d ≡ Some to
  pub away : from ≢ to

-- one directory is the other's parent. (The root names itself, which joins it to no other directory.)
abbrev pub IsEdge : List (Option Entry) → ℕ → ℕ → Type 0
IsEdge entries = IsParentOrChild (parent_of entries)

-- the top of an order: the first of its directories
abbrev pub top : Order → ℕ
top o = slice_index o.dirs 0

-- a largest connected set of directories that all go from one rank to another, by rising numbers
pub record IsOrder (entries : List (Option Entry)) (now target : List (Option ℕ)) (o : Order) : Type 0 where
  pub some : 0 < length o.dirs
  pub rising : IsStrictlyIncreasing o.dirs
  pub moves : (d : ℕ) → Contains o.dirs d → Moves entries now target o.from o.to d
  pub connected : IsConnected (IsEdge entries) (Contains o.dirs)
  -- no neighbouring directory could be added
  pub largest : (c d : ℕ) → Contains o.dirs c → IsEdge entries c d → Moves entries now target o.from o.to d
      → Contains o.dirs d
  -- the top has the least number and is above all others: each of them has its parent in the set
  pub below_top : (d : ℕ) → Contains o.dirs d → d ≢ top o → Contains o.dirs (parent_of entries d)

-- each is a largest connected set, each directory that moves is in one of them and in no other, and their tops rise
pub record AreOrders (entries : List (Option Entry)) (now target : List (Option ℕ)) (os : List Order) : Type 0 where
  pub each : (o : Order) → Contains os o → IsOrder entries now target o
  pub all : (d from to : ℕ) → Moves entries now target from to d → (o : Order) × Contains os o × Contains o.dirs d
  pub once : (o p : Order) (d : ℕ) → Contains os o → Contains os p → Contains o.dirs d → Contains p.dirs d → o ≡ p
  pub tops : IsStrictlyIncreasing (map top os)
