-- A message that comes keeps the invariant, whenever it comes.
use Rattle.std.proofs.Common.{◌≡◌, ℕ, ◌<◌, Bool, true, false, ◌||◌, cond, length, Option, Some, None, refl, arith}
use Rattle.export_protocol.specs.declared.exporter.ExporterState.{ExporterState}
use Rattle.export_protocol.specs.declared.importer.ImporterState.{ImporterState}
use Rattle.export_protocol.specs.declared.journal.JournalEntry.{JournalEntry}
use Rattle.export_protocol.specs.declared.message.Message.{Message}
use Rattle.export_protocol.specs.Cluster.{World}
use Rattle.export_protocol.specs.declared.exporter.ExporterState.TheVariants.{Discovering, Freezing, Preparing, Exporting, Done, Aborted}
use Rattle.export_protocol.specs.declared.importer.ImporterState.TheVariants.{Unknown, Discovered, Prepared, Started, Dropped}
use Rattle.export_protocol.specs.declared.message.Message.TheVariants.{Discover, DiscoverAck, Prep, PrepAck, ExportAck, Finish, Cancel, Query}
use Rattle.export_protocol.specs.Authority.{to_of, exporter_of, importer_of, has, is_stopped}
use Rattle.export_protocol.specs.Step.{exporter_to, importer_to, journals, is_started, Outcome, ignored, comes, receiver, delivered}
use Rattle.export_protocol.proofs.Frame.{finds_exporter, finds_importer}
use Rattle.export_protocol.proofs.Tables.{together, is_imported}
use Rattle.export_protocol.proofs.Views.{not_past}
use Rattle.export_protocol.proofs.Safe.{Safe, message_of, plain_safe, finish_safe, cancel_safe, ack_safe}
use Rattle.export_protocol.proofs.Safe.{early_safe, log_safe, import_early_safe, started_safe, dropped_safe, imported_safe}
use Rattle.std.proofs.lemmas.List.{get_or-set_same}

discovered_pair : (e : ExporterState) → together e Unknown ≡ true → together e Discovered ≡ true
discovered_pair e h = grind arith

prepared_pair : (e : ExporterState) → together e Discovered ≡ true → together e Prepared ≡ true
prepared_pair e h = grind arith

pub ack_started : (i : ImporterState) (b : Bool) → together Exporting i ≡ true → (is_started i || is_imported i || b) ≡ true
    → (b ≡ true → i ≡ Dropped) → i ≡ Started
ack_started i b h k l = grind arith

module _ (w : World) (safe : Safe w) (k x : ℕ) where
  near_importer : x < length w.orders → x < length w.importers
  near_importer n = omega (arith, safe.importing)

  discover_keeps : x < length w.orders → (s : ImporterState) → importer_of w x ≡ s → Safe (finds_importer w (Discover x) s).world
  discover_keeps n Unknown e =
      plain_safe (importer_to w x Discovered)
      (import_early_safe w safe x Discovered (near_importer n) (discovered_pair (exporter_of w x) (rw e at (safe.tables.paired x)))
      (rw e refl) refl (rw e refl) refl (λ d. cc))
      (DiscoverAck x) refl n
  discover_keeps n _ e = safe

  discover_ack_keeps : (s : ExporterState) → exporter_of w x ≡ s → Safe (finds_exporter w (DiscoverAck x) s).world
  discover_ack_keeps Discovering e =
      early_safe w safe x Freezing (not_past w.exporters x Aborted Discovering e (λ d. cc)) (rw e refl) refl (rw e refl)
  discover_ack_keeps _ e = safe

  prep_keeps : x < length w.orders → (s : ImporterState) → importer_of w x ≡ s → Safe (finds_importer w (Prep x) s).world
  prep_keeps n Discovered e =
      plain_safe (importer_to w x Prepared)
      (import_early_safe w safe x Prepared (near_importer n) (prepared_pair (exporter_of w x) (rw e at (safe.tables.paired x))) (rw e refl)
      refl (rw e refl) refl (λ d. cc))
      (PrepAck x) refl n
  prep_keeps n _ e = safe

  prep_ack_keeps : x < length w.orders → (s : ExporterState) → exporter_of w x ≡ s → Safe (finds_exporter w (PrepAck x) s).world
  prep_ack_keeps n Preparing e =
      plain_safe (exporter_to w x Exporting)
      (early_safe w safe x Exporting (not_past w.exporters x Aborted Preparing e (λ d. cc)) (rw e refl) refl (rw e refl))
      (Message.Export x) refl n
  prep_ack_keeps n _ e = safe

  export_keeps : x < length w.orders → (s : ImporterState) → importer_of w x ≡ s → Safe (finds_importer w (Message.Export x) s).world
  export_keeps n Prepared e =
      ack_safe (journals (importer_to w x Started) (to_of w x) (JournalEntry.Started x)) (started_safe w safe x e) x
      (get_or-set_same w.importers x Started Unknown (near_importer n)) n
  export_keeps n _ e = safe

  export_ack_keeps : message_of w k ≡ Some (ExportAck x) → (s : ExporterState) → exporter_of w x ≡ s → Safe (finds_exporter w (ExportAck x) s).world
  export_ack_keeps m Exporting e =
      log_safe w safe x e (ack_started (importer_of w x) (has w (to_of w x) (JournalEntry.Dropped x)) (rw e at (safe.tables.paired x))
      (safe.tables.acked k x m) (λ d. (safe.tables.dropped (to_of w x) x d).1))
  export_ack_keeps m _ e = safe

  finish_keeps : message_of w k ≡ Some (Finish x) → (s : ImporterState) → importer_of w x ≡ s → Safe (finds_importer w (Finish x) s).world
  finish_keeps m Started e = imported_safe w safe x e (safe.tables.finish k x m)
  finish_keeps m _ e = safe

  cancel_early : message_of w k ≡ Some (Cancel x) → is_imported (importer_of w x) ≡ false → is_started (importer_of w x) ≡ false
      → Safe (importer_to w x Dropped)
  cancel_early m i s =
      import_early_safe w safe x Dropped (near_importer (safe.tables.known k (Cancel x) m)) (rw (safe.tables.cancel k x m) refl) i refl s refl (λ d. refl)

  cancel_keeps : message_of w k ≡ Some (Cancel x) → (s : ImporterState) → importer_of w x ≡ s → Safe (finds_importer w (Cancel x) s).world
  cancel_keeps m Unknown e = cancel_early m (rw e refl) (rw e refl)
  cancel_keeps m Discovered e = cancel_early m (rw e refl) (rw e refl)
  cancel_keeps m Prepared e = cancel_early m (rw e refl) (rw e refl)
  cancel_keeps m Started e = dropped_safe w safe x e (safe.tables.cancel k x m)
  cancel_keeps m _ e = safe

  query_keeps : x < length w.orders → (s : ExporterState) → exporter_of w x ≡ s → Safe (finds_exporter w (Query x) s).world
  query_keeps n Done e = finish_safe w safe x e n
  query_keeps n Aborted e = cancel_safe w safe x e n
  query_keeps n _ e = safe

module _ (w : World) (safe : Safe w) (k : ℕ) where
  comes_keeps : (m : Message) → message_of w k ≡ Some m → Safe (comes w m).world
  comes_keeps (Discover x) e = discover_keeps w safe k x (safe.tables.known k (Discover x) e) (importer_of w x) refl
  comes_keeps (DiscoverAck x) e = discover_ack_keeps w safe k x (exporter_of w x) refl
  comes_keeps (Prep x) e = prep_keeps w safe k x (safe.tables.known k (Prep x) e) (importer_of w x) refl
  comes_keeps (PrepAck x) e = prep_ack_keeps w safe k x (safe.tables.known k (PrepAck x) e) (exporter_of w x) refl
  comes_keeps (Message.Export x) e = export_keeps w safe k x (safe.tables.known k (Message.Export x) e) (importer_of w x) refl
  comes_keeps (ExportAck x) e = export_ack_keeps w safe k x e (exporter_of w x) refl
  comes_keeps (Finish x) e = finish_keeps w safe k x e (importer_of w x) refl
  comes_keeps (Cancel x) e = cancel_keeps w safe k x e (importer_of w x) refl
  comes_keeps (Query x) e = query_keeps w safe k x (safe.tables.known k (Query x) e) (exporter_of w x) refl

  either_keeps : (b : Bool) (o p : Outcome) → Safe o.world → Safe p.world → Safe (cond b o p).world
  either_keeps true o p s t = s
  either_keeps false o p s t = t

  pub deliver_keeps : (o : Option Message) → message_of w k ≡ o → Safe (delivered w o).world
  deliver_keeps None e = safe
  deliver_keeps (Some m) e = either_keeps (is_stopped w (receiver w m)) (ignored w) (comes w m) safe (comes_keeps m e)
