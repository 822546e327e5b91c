-- What each command does to a board.
use Rattle.std.specs.Prelude.{ℕ, ℤ, ◌==◌, if◌then◌else◌, List, [], ◌∷◌, ◌++◌}
use Rattle.std.specs.Prelude.{codes, Option, Some, None, Result, Ok, Err}
use Rattle.dirtree.specs.declared.tree_error.TreeError.{TreeError}
use Rattle.dirtree.specs.declared.tree_error.TreeError.TheVariants.{BadName}
use Rattle.dirtree.specs.Path as path
use Rattle.export_protocol.specs.Step.{no_rank}
use Rattle.export_protocol.specs.declared.event.Event.TheVariants.{Stop, Restart}
use Rattle.mds_types.specs.declared.kind.Kind.{Kind}
use Rattle.mds_types.specs.Mask.{mask_bits}
use Rattle.mds_board.specs.declared.change.Change.{Change}
use Rattle.mds_board.specs.declared.change.Change.TheVariants.{Make, Remove, Mask, Tick, Step}
use Rattle.mds_board.specs.declared.change.Change.TheVariants as change
use Rattle.mds_board.specs.State.{refusal}
use Rattle.mds_board.specs.History.{recorded}
use Rattle.script_board.specs.declared.fault.Fault.{Fault}
use Rattle.script_board.specs.declared.fault.Fault.TheVariants as fault
use Rattle.script_board.specs.Board.{BoardData}
use Rattle.script_board.specs.Fault.{tree_fault, unless}
use Rattle.script_board.specs.Looks.{refused_step}

infixl 10 ◌>>=◌
abbrev pub ◌>>=◌ : {A B : Type 0} → Result A Fault → (A → Result B Fault) → Result B Fault
(Ok x) >>= f = f x
(Err e) >>= f = Err e

abbrev pub found : Result ℕ TreeError → Result ℕ Fault
found (Ok d) = Ok d
found (Err e) = Err (tree_fault e)

-- the directory that a path names
abbrev pub find : BoardData → List ℕ → Result ℕ Fault
find b text = found (path.find b.world.state.directories.entries text)

-- one more byte in front of what is before the last slash, or the last slash itself
abbrev pub before_byte : ℕ → List ℕ → Option (List ℕ × List ℕ) → Option (List ℕ × List ℕ)
before_byte b bytes (Some parts) = Some (b ∷ parts.0, parts.1)
before_byte b bytes None = if b == 47 then Some ([], bytes) else None

-- what is before the last slash and what is after it
abbrev pub last_slash : List ℕ → Option (List ℕ × List ℕ)
last_slash [] = None
last_slash (b ∷ bytes) = before_byte b bytes (last_slash bytes)

-- the path of the directory that is to have a child: what is before the last slash, or the root's if nothing is
abbrev pub parent_path : List ℕ → List ℕ
parent_path [] = codes "/"
parent_path (b ∷ bytes) = b ∷ bytes

-- the board makes a change, unless it refuses it
abbrev pub changed : BoardData → Change → Result BoardData Fault
changed b c = unless (refusal b.world.state c) (record b { world = recorded b.world c })

-- the same of a change that forgets the orders of the last plan
abbrev pub replanned : BoardData → Change → Result BoardData Fault
replanned b c = unless (refusal b.world.state c) (record b { world = recorded b.world c; kept = [] })

abbrev pub make_below : BoardData → Option (List ℕ × List ℕ) → ℕ → Result BoardData Fault
make_below b None inodes = Err (tree_fault BadName)
make_below b (Some parts) inodes = find b (parent_path parts.0) >>= λ parent. replanned b (Make parent parts.1 inodes)

abbrev pub make_dir : BoardData → List ℕ → ℕ → Result BoardData Fault
make_dir b text inodes = make_below b (last_slash text) inodes

abbrev pub remove_dir : BoardData → List ℕ → Result BoardData Fault
remove_dir b text = find b text >>= λ d. replanned b (Remove d)

abbrev pub set_pin : BoardData → List ℕ → ℤ → Result BoardData Fault
set_pin b text value = find b text >>= λ d. replanned b (change.Pin d value)

abbrev pub masked : BoardData → Option ℕ → Result BoardData Fault
masked b None = Err fault.Mask
masked b (Some bits) = replanned b (Mask bits)

abbrev pub set_mask : BoardData → List ℕ → Result BoardData Fault
set_mask b text = masked b (mask_bits text)

-- a request waits
abbrev pub load : BoardData → List ℕ → ℕ → Kind → Result BoardData Fault
load b text hits kind =
    find b text >>= λ d. Ok (record b { loads = b.loads ++ record { dir = d; hits = hits; kind = kind } ∷ [] })

-- how much a read and a write count in deposits from now on
abbrev pub set_weights : BoardData → ℕ → ℕ → Result BoardData Fault
set_weights b read write = changed b (change.Weights read write)

-- all heats are halved
abbrev pub tick : BoardData → Result BoardData Fault
tick b = changed b Tick

-- a rank stops, or runs again
abbrev pub stop : BoardData → ℕ → Result BoardData Fault
stop b rank = changed b (Step (Stop rank))

abbrev pub restart : BoardData → ℕ → Result BoardData Fault
restart b rank = changed b (Step (Restart rank))

-- an active rank is to stop before this round of the next `move` or `traffic`
abbrev pub fail : BoardData → ℕ → ℕ → Result BoardData Fault
fail b rank round =
    unless (refused_step (no_rank b.world.state.cluster rank))
    (record b { stops = b.stops ++ record { rank = rank; round = round } ∷ [] })
