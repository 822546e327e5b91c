-- Which numbered refusal an error is.
use Rattle.mds_types.specs.declared.refusal.ExportStage.{ExportStage}
use Rattle.mds_types.specs.declared.refusal.Refusal.{Refusal}
use Rattle.export_protocol.specs.declared.exporter.ExporterState.{ExporterState}
use Rattle.export_protocol.specs.declared.step_error.StepError.{StepError}

abbrev pub stage_of : ExporterState → ExportStage
stage_of ExporterState.Discovering = ExportStage.Discovering
stage_of ExporterState.Freezing = ExportStage.Freezing
stage_of ExporterState.Preparing = ExportStage.Preparing
stage_of ExporterState.Exporting = ExportStage.Exporting
stage_of ExporterState.Logged = ExportStage.Logged
stage_of ExporterState.Done = ExportStage.Done
stage_of ExporterState.Aborted = ExportStage.Aborted

abbrev pub refusal_of : StepError → Refusal
refusal_of StepError.Memory = Refusal.Memory
refusal_of StepError.NoDir = Refusal.NoDir
refusal_of StepError.NotEmpty = Refusal.NotEmpty
refusal_of StepError.IsRoot = Refusal.IsRoot
refusal_of StepError.TreeFull = Refusal.TreeFull
refusal_of StepError.NoRank = Refusal.NoRank
refusal_of StepError.NoExport = Refusal.NoExport
refusal_of (StepError.Elsewhere rank) = Refusal.Elsewhere rank
refusal_of (StepError.Busy export) = Refusal.Busy export
refusal_of (StepError.Frozen export) = Refusal.Frozen export
refusal_of StepError.SameRank = Refusal.SameRank
refusal_of (StepError.NotYet requests) = Refusal.NotYet requests
refusal_of (StepError.Late state) = Refusal.Late (stage_of state)
refusal_of StepError.NoMessage = Refusal.NoMessage
refusal_of StepError.NoTicket = Refusal.NoTicket
refusal_of StepError.NotConnected = Refusal.NotConnected
refusal_of StepError.ExportsFull = Refusal.ExportsFull
refusal_of (StepError.Stopped rank) = Refusal.Stopped rank
refusal_of StepError.HistoryFull = Refusal.HistoryFull
