-- An order that grows.
use Rattle.std.specs.Prelude.{ℕ, [], ◌∷◌, ◌++◌}
use Rattle.mds_types.specs.declared.order.Order.{Order}
use Rattle.tree_parts.specs.declared.moves.Move.{Move}

-- an order for this move with one directory
abbrev pub begun : Move → ℕ → Order
begun made top = record { from = made.from; to = made.to; dirs = top ∷ [] }

-- one directory more
abbrev pub with_dir : Order → ℕ → Order
with_dir o d = record o { dirs = o.dirs ++ d ∷ [] }

abbrev pub no_order : Order
no_order = record { from = 0; to = 0; dirs = [] }
