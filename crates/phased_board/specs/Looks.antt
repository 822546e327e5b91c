-- What the states of an export ask of its ranks.
use Rattle.std.specs.Prelude.{Bool, true, false}
use Rattle.export_protocol.specs.declared.exporter.ExporterState.{ExporterState}
use Rattle.export_protocol.specs.declared.exporter.ExporterState.TheVariants.{Aborted, Discovering, Done, Exporting}
use Rattle.export_protocol.specs.declared.exporter.ExporterState.TheVariants.{Freezing, Logged, Preparing}
use Rattle.export_protocol.specs.declared.importer.ImporterState.{ImporterState}
use Rattle.export_protocol.specs.declared.importer.ImporterState.TheVariants.{Dropped, Imported, Unknown}

-- the exporter has steps to make
abbrev pub is_under_way : ExporterState → Bool
is_under_way Done = false
is_under_way Aborted = false
is_under_way _ = true

abbrev pub is_freezing : ExporterState → Bool
is_freezing Freezing = true
is_freezing _ = false

abbrev pub is_logged : ExporterState → Bool
is_logged Logged = true
is_logged _ = false

-- the export isn't committed yet
abbrev pub is_before_log : ExporterState → Bool
is_before_log Discovering = true
is_before_log Freezing = true
is_before_log Preparing = true
is_before_log Exporting = true
is_before_log _ = false

-- The importer has neither imported nor dropped it, and knows of it where the exporter has aborted it.
abbrev pub is_awaited : ExporterState → ImporterState → Bool
is_awaited _ Imported = false
is_awaited _ Dropped = false
is_awaited Aborted Unknown = false
is_awaited _ _ = true
