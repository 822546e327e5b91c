-- The numbered refusals, and the bytes that are printed for each.
use Rattle.std.specs.Prelude.{ℕ, List, [], ◌∷◌, ◌++◌, codes, decimal}
use Rattle.mds_types.specs.declared.refusal.Refusal.{Refusal}
use Rattle.mds_types.specs.declared.refusal.Refusal.TheVariants as refusal
use Rattle.mds_types.specs.declared.refusal.RefusalValue.{RefusalValue}
use Rattle.mds_types.specs.declared.refusal.RefusalValue.TheVariants.{Nothing, Number, Stage}
use Rattle.mds_types.specs.declared.refusal.ExportStage.{ExportStage}
use Rattle.mds_types.specs.declared.refusal.ExportStage.TheVariants as stage

-- how far an export has come
abbrev pub stage_word : ExportStage → List ℕ
stage_word stage.Discovering = codes "discovering"
stage_word stage.Freezing = codes "freezing"
stage_word stage.Preparing = codes "preparing"
stage_word stage.Exporting = codes "exporting"
stage_word stage.Logged = codes "logged"
stage_word stage.Done = codes "done"
stage_word stage.Aborted = codes "aborted"

-- the number and the name
abbrev pub name : Refusal → List ℕ
name refusal.Memory = codes "0 Memory"
name refusal.BadMask = codes "1 BadMask"
name (refusal.BadParent row) = codes "2 BadParent"
name (refusal.TooHot row) = codes "3 TooHot"
name refusal.TooMany = codes "4 TooMany"
name refusal.NoRanks = codes "5 NoRanks"
name refusal.NoDir = codes "6 NoDir"
name refusal.Exists = codes "7 Exists"
name refusal.BadName = codes "8 BadName"
name refusal.NotEmpty = codes "9 NotEmpty"
name refusal.IsRoot = codes "10 IsRoot"
name refusal.TreeFull = codes "11 TreeFull"
name refusal.NoRank = codes "12 NoRank"
name refusal.ShareFull = codes "13 ShareFull"
name (refusal.Missing weight) = codes "14 Missing"
name refusal.TicksFull = codes "15 TicksFull"
name (refusal.Heavy row) = codes "16 Heavy"
name refusal.NoExport = codes "17 NoExport"
name (refusal.Elsewhere rank) = codes "18 Elsewhere"
name (refusal.Busy export) = codes "19 Busy"
name (refusal.Frozen export) = codes "20 Frozen"
name refusal.SameRank = codes "21 SameRank"
name (refusal.NotYet requests) = codes "22 NotYet"
name (refusal.Late stage) = codes "23 Late"
name refusal.NoMessage = codes "24 NoMessage"
name refusal.NoTicket = codes "25 NoTicket"
name refusal.NotConnected = codes "26 NotConnected"
name refusal.ExportsFull = codes "27 ExportsFull"
name (refusal.Stopped rank) = codes "28 Stopped"
name refusal.BalancerOff = codes "29 BalancerOff"
name refusal.NoProblem = codes "30 NoProblem"
name (refusal.Changed event) = codes "31 Changed"
name refusal.NotBest = codes "32 NotBest"
name refusal.HistoryFull = codes "33 HistoryFull"
name refusal.NoReader = codes "34 NoReader"
name refusal.Pinned = codes "35 Pinned"
name refusal.NoThread = codes "36 NoThread"
name refusal.BadWeight = codes "37 BadWeight"

-- the value after it, where there is one
abbrev pub value_of : Refusal → RefusalValue
value_of (refusal.BadParent row) = Number row
value_of (refusal.TooHot row) = Number row
value_of (refusal.Missing weight) = Number weight
value_of (refusal.Heavy row) = Number row
value_of (refusal.Elsewhere rank) = Number rank
value_of (refusal.Busy export) = Number export
value_of (refusal.Frozen export) = Number export
value_of (refusal.NotYet requests) = Number requests
value_of (refusal.Late stage) = Stage stage
value_of (refusal.Changed event) = Number event
value_of (refusal.Stopped rank) = Number rank
value_of _ = Nothing

abbrev pub value_words : RefusalValue → List ℕ
value_words Nothing = []
value_words (Number number) = 32 ∷ decimal number
value_words (Stage stage) = 32 ∷ stage_word stage

abbrev pub value : Refusal → List ℕ
value refusal = value_words (value_of refusal)

-- what is printed
abbrev pub words : Refusal → List ℕ
words refusal = name refusal ++ value refusal
