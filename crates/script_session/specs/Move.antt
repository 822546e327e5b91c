-- What the command `move` prints.
use Rattle.std.specs.Prelude.{ℕ, Bool, true, false, List, [], ◌∷◌, ◌++◌, length, map, codes}
use Rattle.std.specs.Prelude.{decimal, slice_index_or, sum_by, Option, Some, None}
use Rattle.dirtree.specs.Path.{path_of}
use Rattle.dirtree.specs.Tree.{Entry, entry_at, is_there}
use Rattle.mds_types.specs.declared.order.Order.{Order}
use Rattle.mds_types.specs.Refusal.{words}
use Rattle.mds_types.specs.declared.refusal.Refusal.TheVariants as refusal
use Rattle.mds_board.specs.Refused.{refusal_of}
use Rattle.phased_board.specs.declared.outcome.Outcome.{Outcome}
use Rattle.phased_board.specs.declared.outcome.Outcome.TheVariants.{Done, Aborted, Open, Refused, NoThread}
use Rattle.script_board.specs.Board.{BoardData}

-- an order that no thread took up, as its exporter had none, is refused, too
abbrev pub word : Outcome → List ℕ
word (Done export) = codes "done"
word (Aborted export) = codes "aborted"
word (Open export) = codes "open"
word (Refused error) = codes "refused " ++ words (refusal_of error)
word NoThread = codes "refused " ++ words refusal.NoThread

abbrev pub move_line : ℕ → List ℕ
move_line count = codes "move " ++ decimal count ++ 10 ∷ []

abbrev pub inodes_of : Option Entry → ℕ
inodes_of None = 0
inodes_of (Some e) = e.inodes

-- the inodes of some directories together
abbrev pub all_inodes : List (Option Entry) → List ℕ → ℕ
all_inodes entries dirs = sum_by (λ d. inodes_of (entry_at entries d)) dirs

-- the top of a connected set of directories, which comes first
abbrev pub top_of : Order → ℕ
top_of order = slice_index_or order.dirs 0 0

abbrev pub path_if : Bool → List (Option Entry) → ℕ → List ℕ
path_if true entries d = path_of entries d
path_if false entries d = codes "-"

-- the path of a directory, as long as it is there
abbrev pub dir_path : BoardData → ℕ → List ℕ
dir_path b d = path_if (is_there b.world.state.directories.entries d) b.world.state.directories.entries d

abbrev pub top_path : BoardData → Order → List ℕ
top_path b order = dir_path b (top_of order)

-- from where and to where the directories below a path go
abbrev pub way_text : List ℕ → ℕ → ℕ → List ℕ
way_text path from to = codes "export " ++ path ++ codes " from " ++ decimal from ++ codes " to " ++ decimal to

-- what goes that way, and what became of it
abbrev pub export_text : List ℕ → ℕ → ℕ → List ℕ → List ℕ
export_text way count inodes told =
    way ++ codes " dirs " ++ decimal count ++ codes " inodes " ++ decimal inodes ++ codes " " ++ told ++ 10 ∷ []

abbrev pub export_line : BoardData → Order × Outcome → List ℕ
export_line b told =
    export_text (way_text (top_path b told.0) told.0.from told.0.to) (length told.0.dirs)
    (all_inodes b.world.state.directories.entries told.0.dirs) (word told.1)

-- each order with its outcome
abbrev pub pairs : List Order → List Outcome → List (Order × Outcome)
pairs (order ∷ orders) (outcome ∷ outcomes) = (order, outcome) ∷ pairs orders outcomes
pairs _ _ = []

-- the line on all orders, and then a line for each, with what became of it
abbrev pub move_lines : BoardData → List Order → List Outcome → List (List ℕ)
move_lines b orders outcomes = move_line (length orders) ∷ map (export_line b) (pairs orders outcomes)
