-- Why a line is faulty.
use Rattle.std.specs.Prelude.{◌≡◌, ◌⊎◌, Bool, true, false, List, [], ◌∷◌, Option, Some, None, Result, Ok, Err, IsOk}
use Rattle.dirtree.specs.declared.tree_error.TreeError.{TreeError}
use Rattle.dirtree.specs.declared.tree_error.TreeError.TheVariants as tree
use Rattle.heat_ledger.specs.declared.hit_error.HitError.TheVariants as hit
use Rattle.rank_threads.specs.declared.work.WorkError.{WorkError}
use Rattle.rank_threads.specs.declared.work.WorkError.TheVariants as work
use Rattle.mds_board.specs.declared.board_error.BoardError.{BoardError}
use Rattle.mds_board.specs.declared.board_error.BoardError.TheVariants as board
use Rattle.mds_board.specs.Refused.{tree_refused}
use Rattle.script_board.specs.declared.fault.Fault.{Fault}
use Rattle.script_board.specs.declared.fault.Fault.TheVariants.{Memory, Refused}
use Rattle.script_board.specs.declared.fault.Fault.TheVariants as fault

-- out of memory is one fault, wherever it comes from
abbrev pub board_fault : BoardError → Fault
board_fault board.Memory = Memory
board_fault (board.Tree e) = Refused (board.Tree e)
board_fault (board.Pin e) = Refused (board.Pin e)
board_fault (board.Step e) = Refused (board.Step e)
board_fault board.BalancerOff = Refused board.BalancerOff
board_fault board.NoProblem = Refused board.NoProblem
board_fault (board.Changed event) = Refused (board.Changed event)
board_fault board.NotBest = Refused board.NotBest
board_fault board.HistoryFull = Refused board.HistoryFull
board_fault board.BadWeight = Refused board.BadWeight

abbrev pub tree_fault : TreeError → Fault
tree_fault e = board_fault (tree_refused e)

-- why a request wasn't served, or not whole
abbrev pub work_fault : WorkError → Fault
work_fault (work.Board e) = board_fault e
work_fault (work.Share hit.NoDir) = tree_fault tree.NoDir
work_fault (work.Share hit.ShareFull) = fault.ShareFull
work_fault work.NoThread = fault.NoThread

-- what is done, unless a cause applies
abbrev pub unless : {A : Type 0} → Option BoardError → A → Result A Fault
unless None x = Ok x
unless (Some e) x = Err (board_fault e)

-- the refusal, if there is one
abbrev pub unless_done : Result Unit BoardError → List Fault
unless_done (Ok done) = []
unless_done (Err error) = board_fault error ∷ []

-- the fault is the one that is due, or `Memory` where none is
abbrev pub IsDue : {A : Type 0} → Result A Fault → Fault → Type 0
IsDue due fault = (due ≡ Err fault) ⊎ ((fault ≡ Memory) × IsOk due)

abbrev pub is_memory : Fault → Bool
is_memory Memory = true
is_memory _ = false
