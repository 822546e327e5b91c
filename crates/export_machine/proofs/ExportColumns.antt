-- The columns of the table of exports where one row is written.
use Rattle.std.proofs.Common.{◌≡◌, ℕ, Bool, get_or, set, map, Vec, refl, ap, ◌∙◌}
use Rattle.std.specs.Vec.{with_item}
use Rattle.std.proofs.lemmas.List.{map-set}
use Rattle.export_protocol.specs.declared.exporter.ExporterState.{ExporterState}
use Rattle.export_protocol.specs.declared.importer.ImporterState.{ImporterState}
use Rattle.export_machine.specs.declared.export_table.ExportRow.{ExportRow}
use Rattle.export_machine.specs.ExportColumns.{ExportColumns, export_columns}
use Rattle.export_machine.proofs.Columns.{set_same}

module _ {A : Type 0} (v : Vec ExportRow A) (t : ExportColumns) (is : export_columns v ≡ t) (i : ℕ) where
  module _ (row : ExportRow) (here : row ≡ get_or v.items i row) where
    own : {B : Type 0} (f : ExportRow → B) → set (map f v.items) i (f row) ≡ map f v.items
    own f = set_same f v.items i row here

    written : (new : ExportRow) → export_columns (with_item v i new) ≡ record {
      orders = set (export_columns v).orders i new.order;
      exporters = set (export_columns v).exporters i new.exporter;
      importers = set (export_columns v).importers i new.importer;
      dropped = set (export_columns v).dropped i new.dropped;
      spare = (export_columns v).spare;
    }
    written new = rw (
      map-set (λ r. r.order) v.items i new,
      map-set (λ r. r.exporter) v.items i new,
      map-set (λ r. r.importer) v.items i new,
      map-set (λ r. r.dropped) v.items i new,
    ) refl

    pub exporter_set : (s : ExporterState) → export_columns (with_item v i (record row { exporter = s })) ≡ record t { exporters = set t.exporters i s }
    exporter_set s = written (record row { exporter = s })
        ∙ (rw (own (λ r. r.order), own (λ r. r.importer), own (λ r. r.dropped)) refl
        ∙ ap (λ (u : ExportColumns). record u { exporters = set u.exporters i s }) is)

    pub importer_set : (s : ImporterState) → export_columns (with_item v i (record row { importer = s })) ≡ record t { importers = set t.importers i s }
    importer_set s = written (record row { importer = s })
        ∙ (rw (own (λ r. r.order), own (λ r. r.exporter), own (λ r. r.dropped)) refl
        ∙ ap (λ (u : ExportColumns). record u { importers = set u.importers i s }) is)

    pub dropped_set : (b : Bool) → export_columns (with_item v i (record row { dropped = b })) ≡ record t { dropped = set t.dropped i b }
    dropped_set b = written (record row { dropped = b })
        ∙ (rw (own (λ r. r.order), own (λ r. r.exporter), own (λ r. r.importer)) refl ∙ ap (λ (u : ExportColumns). record u { dropped = set u.dropped i b }) is)
