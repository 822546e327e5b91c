-- The orders, from the rank that has each directory and the rank that it is to be at.
use Rattle.std.specs.Prelude.{◌==◌, ◌&&◌, ℕ, Bool, List, length, filter, map, is_some, Option, Some, None}
use Rattle.std.specs.List.{range_with_len}
use Rattle.mds_types.specs.declared.order.Order.{Order}
use Rattle.dirtree.specs.Tree.{Entry}
use Rattle.tree_parts.specs.declared.moves.Move.{Move}
use Rattle.tree_parts.specs.Moves.{is_top, move_of, top_of}

-- d moves, and this is the nearest top at it or above it
abbrev pub is_member : List (Option Entry) → (ℕ → Option Move) → ℕ → ℕ → Bool
is_member entries move top d = is_some (move d) && (top_of entries move d == top)

abbrev pub from_of : Option Move → ℕ
from_of None = 0
from_of (Some m) = m.from

abbrev pub to_of : Option Move → ℕ
to_of None = 0
to_of (Some m) = m.to

-- the order of a top, with the directories below n, rising
abbrev pub order_of : List (Option Entry) → (ℕ → Option Move) → ℕ → ℕ → Order
order_of entries move n top =
    record {
      from = from_of (move top);
      to = to_of (move top);
      dirs = filter (is_member entries move top)
          (range_with_len 0 n);
    }

-- the tops below n, rising
abbrev pub tops : List (Option Entry) → (ℕ → Option Move) → ℕ → List ℕ
tops entries move n = filter (is_top entries move) (range_with_len 0 n)

-- the orders by rising tops: now has the rank of each directory, target the rank that it is to be at
abbrev pub orders : List (Option Entry) → List (Option ℕ) → List (Option ℕ) → List Order
orders entries now target =
    map (order_of entries (move_of entries now target) (length entries))
    (tops entries (move_of entries now target) (length entries))
