-- The table of exports as lists, one for each of its columns.
use Rattle.std.specs.Prelude.{Bool, List, map, Vec}
use Rattle.mds_types.specs.declared.order.Order.{Order}
use Rattle.export_protocol.specs.declared.exporter.ExporterState.{ExporterState}
use Rattle.export_protocol.specs.declared.importer.ImporterState.{ImporterState}
use Rattle.export_machine.specs.declared.export_table.ExportRow.{ExportRow}
use Rattle.export_machine.specs.Columns.{has_spare}

-- by export
pub record ExportColumns : Type 0 where
  pub orders : List Order  -- what it moves
  pub exporters : List ExporterState  -- its state at the exporter
  pub importers : List ImporterState  -- its state at the importer
  pub dropped : List Bool  -- whether its importer's journal has it as dropped
  pub spare : Bool  -- whether there is room for one more export

abbrev pub export_columns : {A : Type 0} → Vec ExportRow A → ExportColumns
export_columns v = record {
  orders = map (λ row. row.order) v.items;
  exporters = map (λ row. row.exporter) v.items;
  importers = map (λ row. row.importer) v.items;
  dropped = map (λ row. row.dropped) v.items;
  spare = has_spare v;
}
