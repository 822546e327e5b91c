-- The tables follow each move: row by row of the table of messages.
use Rattle.std.proofs.Common.{◌≡◌, ℕ, true, length, Option, Some, None, refl}
use Rattle.std.proofs.lemmas.List.{length-set}
use Rattle.export_protocol.specs.declared.exporter.ExporterState.{ExporterState}
use Rattle.export_protocol.specs.declared.importer.ImporterState.{ImporterState}
use Rattle.export_protocol.specs.declared.message.Message.{Message}
use Rattle.export_protocol.specs.declared.moves.Transition.{Transition}
use Rattle.export_protocol.specs.declared.event.Reply.{Reply}
use Rattle.export_machine.specs.declared.records.Records.{Records}
use Rattle.export_protocol.specs.declared.exporter.ExporterState.TheVariants.{Discovering, Freezing, Preparing, Exporting, Done, Aborted}
use Rattle.export_protocol.specs.declared.importer.ImporterState.TheVariants.{Unknown, Discovered, Prepared, Started, Dropped}
use Rattle.export_protocol.specs.declared.message.Message.TheVariants.{Discover, DiscoverAck, Prep, PrepAck, ExportAck, Finish, Cancel, Query}
use Rattle.export_protocol.specs.Cluster.{World}
use Rattle.export_protocol.specs.Authority.{order_in, exporter_of, importer_of, to_of}
use Rattle.export_protocol.specs.Step.{about, receiver, move, moved, acts, importer_to, exporter_moves, importer_moves, notes, replies}
use Rattle.export_machine.specs.Kept.{world_of, indexes_of, CanReceive, IsIndexed, Indexes, AreListed, is_passing}
use Rattle.export_machine.specs.Moving.{heard, indexes_moved}
use Rattle.export_machine.proofs.Receiving.{known, known_importer, to_rank, from_rank, to_listed}
use Rattle.export_machine.proofs.Listed.{heard_listed, importer_listed}
use Rattle.export_machine.proofs.Rows.{importer_indexed, exporter_indexed, export_indexed, dropped_indexed, log_indexed, finish_indexed}

module _ (r : Records) where
  abbrev w : World
  w = world_of r

  abbrev i : Indexes
  i = indexes_of r

  -- an import that goes on without an entry
  early : (m : Message) (can : CanReceive r m) (s : ImporterState) → is_passing (importer_of w (about m)) ≡ true →
      AreListed w.ranks w.orders w.exporters (importer_to w (about m) s).importers w.journals i.open_at i.dropped
  early m can s p = importer_listed w.ranks w.orders w.exporters w.importers w.journals i.open_at i.dropped can.kept.indexed.listed (about m) s (λ k. p)

  hears : (m : Message) (can : CanReceive r m) (s : ImporterState) →
      AreListed w.ranks w.orders w.exporters (importer_to w (about m) s).importers w.journals
      (heard (to_of w (about m)) (about m) (Some s) Unknown i.open_at) i.dropped
  hears m can s = heard_listed w.ranks w.orders w.exporters w.importers w.journals i.open_at i.dropped can.kept.indexed.listed (about m) s (to_listed r m can)

  pub row_indexed : (m : Message) (can : CanReceive r m) (e : ExporterState) (s : ImporterState) → exporter_of w (about m) ≡ e → importer_of w (about m) ≡ s →
      IsIndexed (acts w m (move m e s)).world (indexes_moved (order_in w.orders (about m)) (receiver w m) (about m) s (move m e s) i)
  row_indexed (Discover x) can e Unknown h k = importer_indexed w i can.kept.indexed _ _ _ (hears (Discover x) can Discovered)
  row_indexed (DiscoverAck x) can Discovering s h k = exporter_indexed w i x Freezing can.kept.indexed (rw h refl) (λ l. rw h refl) w.sent
  row_indexed (Prep x) can e Discovered h k = importer_indexed w i can.kept.indexed _ _ _ (early (Prep x) can Prepared (rw k refl))
  row_indexed (PrepAck x) can Preparing s h k = exporter_indexed w i x Exporting can.kept.indexed (rw h refl) (λ l. rw h refl) _
  row_indexed (Message.Export x) can e Prepared h k =
      export_indexed w i x _ can.kept.reached can.kept.indexed k (known_importer r (Message.Export x) can) (to_rank r (Message.Export x) can)
  row_indexed (ExportAck x) can Exporting s h k = log_indexed w x can.sent.0 h can.sent.1 (from_rank r (ExportAck x) can) can.kept.reached i can.kept.indexed
  row_indexed (Finish x) can e Started h k = finish_indexed w x can.sent.0 k can.sent.1 (to_rank r (Finish x) can) can.kept.reached i can.kept.indexed
  row_indexed (Cancel x) can e Unknown h k = importer_indexed w i can.kept.indexed _ _ _ (hears (Cancel x) can Dropped)
  row_indexed (Cancel x) can e Discovered h k = importer_indexed w i can.kept.indexed _ _ _ (early (Cancel x) can Dropped (rw k refl))
  row_indexed (Cancel x) can e Prepared h k = importer_indexed w i can.kept.indexed _ _ _ (early (Cancel x) can Dropped (rw k refl))
  row_indexed (Cancel x) can e Started h k =
      dropped_indexed w i x can.sent.0 can.kept.reached can.kept.indexed k (known_importer r (Cancel x) can) (to_rank r (Cancel x) can)
      can.sent.1 (known r (Cancel x) can)
  row_indexed (Query x) can Done s h k = importer_indexed w i can.kept.indexed _ _ _ can.kept.indexed.listed
  row_indexed (Query x) can Aborted s h k = importer_indexed w i can.kept.indexed _ _ _ can.kept.indexed.listed
  row_indexed _ can _ _ h k = can.kept.indexed

pub exporters_long : (w : World) (x : ℕ) (o : Option ExporterState) → length (exporter_moves w x o).exporters ≡ length w.exporters
exporters_long w x None = refl
exporters_long w x (Some s) = length-set w.exporters x s

pub importers_long : (w : World) (x : ℕ) (o : Option ImporterState) → length (importer_moves w x o).importers ≡ length w.importers
importers_long w x None = refl
importers_long w x (Some s) = length-set w.importers x s

-- a move in its parts
pub moved_parts : (w w₁ w₂ w₃ w₄ : World) (x rank : ℕ) (v : Transition) (reply : Reply) → w₁ ≡ exporter_moves w x v.exporter
    → w₂ ≡ importer_moves w₁ x v.importer →
    w₃ ≡ notes w₂ rank v.entry → replies w₃ v.sends ≡ record { reply = reply; world = w₄ } → moved w x rank v ≡ record { reply = reply; world = w₄ }
moved_parts w w₁ w₂ w₃ w₄ x rank v reply e i n s = rw (← e, ← i, ← n) s
