-- The moves that directories are to make, each from the rank that has it to the rank that it is to be at.
use Rattle.std.specs.Prelude.{◌==◌, ◌&&◌, ℕ, Bool, false, not, if◌then◌else◌, List, []}
use Rattle.std.specs.Prelude.{◌∷◌, slice_index_or, is_some, Option, Some, None}
use Prim.Native.Nat.{zero, suc}
use Rattle.dirtree.specs.Tree.{Entry, is_there, parent_of, walk_up}
use Rattle.tree_parts.specs.declared.moves.Move.{Move}

-- the rank of d in a list of ranks by numbers
abbrev pub rank_at : List (Option ℕ) → ℕ → Option ℕ
rank_at ranks d = slice_index_or ranks d None

-- from this rank to another; what has no rank, or is to have none, stays
abbrev pub between : Option ℕ → Option ℕ → Option Move
between None target = None
between (Some from) None = None
between (Some from) (Some to) = if from == to then None else Some (record { from = from; to = to })

-- the move that d is to make, if it is there and is to make one: now has the rank of each directory, target the rank
-- that it is to be at
abbrev pub move_of : List (Option Entry) → List (Option ℕ) → List (Option ℕ) → ℕ → Option Move
move_of entries now target d = if is_there entries d then between (rank_at now d) (rank_at target d) else None

abbrev pub is_same_move : Option Move → Option Move → Bool
is_same_move (Some m) (Some n) = (m.from == n.from) && (m.to == n.to)
is_same_move _ _ = false

-- d moves, and its parent does not move as it does; the root has no parent
abbrev pub is_top : List (Option Entry) → (ℕ → Option Move) → ℕ → Bool
is_top entries move zero = is_some (move 0)
is_top entries move (suc d) =
    is_some (move (suc d)) && not (is_same_move (move (parent_of entries (suc d))) (move (suc d)))

-- the first of these directories that is a top, or the root
abbrev pub first_top : List (Option Entry) → (ℕ → Option Move) → List ℕ → ℕ
first_top entries move [] = 0
first_top entries move (d ∷ above) = if is_top entries move d then d else first_top entries move above

-- the nearest top at d or above it
abbrev pub top_of : List (Option Entry) → (ℕ → Option Move) → ℕ → ℕ
top_of entries move d = first_top entries move (walk_up entries d)
