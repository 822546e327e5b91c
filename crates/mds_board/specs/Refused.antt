-- Which numbered refusal an error is. Out of memory is one refusal, wherever it comes from.
use Rattle.mds_types.specs.declared.refusal.Refusal.{Refusal}
use Rattle.mds_types.specs.declared.refusal.Refusal.TheVariants as refusal
use Rattle.dirtree.specs.declared.tree_error.TreeError.{TreeError}
use Rattle.dirtree.specs.declared.tree_error.TreeError.TheVariants as tree_error
use Rattle.dirtree.specs.TreeError as of_tree
use Rattle.dir_pins.specs.PinError as of_pin
use Rattle.export_protocol.specs.Refused as of_step
use Rattle.export_protocol.specs.declared.step_error.StepError.{StepError}
use Rattle.export_protocol.specs.declared.step_error.StepError.TheVariants as step_error
use Rattle.mds_board.specs.declared.board_error.BoardError.{BoardError}
use Rattle.mds_board.specs.declared.board_error.BoardError.TheVariants as error

abbrev pub refusal_of : BoardError → Refusal
refusal_of error.Memory = refusal.Memory
refusal_of (error.Tree e) = of_tree.refusal_of e
refusal_of (error.Pin e) = of_pin.refusal_of e
refusal_of (error.Step e) = of_step.refusal_of e
refusal_of error.BalancerOff = refusal.BalancerOff
refusal_of error.NoProblem = refusal.NoProblem
refusal_of (error.Changed event) = refusal.Changed event
refusal_of error.NotBest = refusal.NotBest
refusal_of error.HistoryFull = refusal.HistoryFull
refusal_of error.BadWeight = refusal.BadWeight

abbrev pub tree_refused : TreeError → BoardError
tree_refused tree_error.Memory = error.Memory
tree_refused tree_error.NoDir = error.Tree tree_error.NoDir
tree_refused tree_error.Exists = error.Tree tree_error.Exists
tree_refused tree_error.BadName = error.Tree tree_error.BadName
tree_refused tree_error.NotEmpty = error.Tree tree_error.NotEmpty
tree_refused tree_error.IsRoot = error.Tree tree_error.IsRoot
tree_refused tree_error.TreeFull = error.Tree tree_error.TreeFull

abbrev pub step_refused : StepError → BoardError
step_refused step_error.Memory = error.Memory
step_refused step_error.NoDir = error.Step step_error.NoDir
step_refused step_error.NotEmpty = error.Step step_error.NotEmpty
step_refused step_error.IsRoot = error.Step step_error.IsRoot
step_refused step_error.TreeFull = error.Step step_error.TreeFull
step_refused step_error.NoRank = error.Step step_error.NoRank
step_refused step_error.NoExport = error.Step step_error.NoExport
step_refused (step_error.Elsewhere rank) = error.Step (step_error.Elsewhere rank)
step_refused (step_error.Busy export) = error.Step (step_error.Busy export)
step_refused (step_error.Frozen export) = error.Step (step_error.Frozen export)
step_refused step_error.SameRank = error.Step step_error.SameRank
step_refused (step_error.NotYet requests) = error.Step (step_error.NotYet requests)
step_refused (step_error.Late state) = error.Step (step_error.Late state)
step_refused step_error.NoMessage = error.Step step_error.NoMessage
step_refused step_error.NoTicket = error.Step step_error.NoTicket
step_refused step_error.NotConnected = error.Step step_error.NotConnected
step_refused step_error.ExportsFull = error.Step step_error.ExportsFull
step_refused (step_error.Stopped rank) = error.Step (step_error.Stopped rank)
step_refused step_error.HistoryFull = error.Step step_error.HistoryFull
