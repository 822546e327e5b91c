-- A stop and a restart keep the invariant.
use Rattle.std.proofs.Common.{◌≡◌, ℕ, Bool, true, false, ◌&&◌, not, eqb, cond, List, length, get_or}
use Rattle.std.proofs.Common.{Option, Some, None, refl, sym, ◌∙◌, subst, inl, inr, ◌⊎◌, arith}
use Rattle.export_protocol.specs.declared.exporter.ExporterState.{ExporterState}
use Rattle.export_protocol.specs.declared.importer.ImporterState.{ImporterState}
use Rattle.export_protocol.specs.declared.journal.JournalEntry.{JournalEntry}
use Rattle.export_protocol.specs.declared.event.Request.{Request}
use Rattle.export_protocol.specs.Cluster.{World}
use Rattle.export_protocol.specs.declared.exporter.ExporterState.TheVariants.{Discovering, Freezing, Preparing, Exporting, Logged, Done, Aborted}
use Rattle.export_protocol.specs.declared.importer.ImporterState.TheVariants.{Unknown, Discovered, Prepared, Started, Imported, Dropped}
use Rattle.export_protocol.specs.Authority.{from_of, to_of, exporter_of, importer_of, request_of, has, is_stopped}
use Rattle.export_protocol.specs.Step.{happens, is_started, is_before_log, exporter_by_journal, importer_by_journal, ends_at, stops, restarts, changed, ignored}
use Rattle.export_protocol.specs.Entries.{exporter_at_stop, importer_at_stop}
use Rattle.export_protocol.specs.declared.event.Event.TheVariants.{Stop, Restart}
use Rattle.export_protocol.proofs.Owning.{is_moving, halted_owning, halted_running}
use Rattle.export_protocol.proofs.Owning.Phase.{Over}
use Rattle.export_protocol.proofs.Tables.{is_imported, is_done, is_committed, halted_exporters, halted_importers}
use Rattle.export_protocol.proofs.Views.{map_at_get, map_at_past, map_at_length}
use Rattle.export_protocol.proofs.Safe.{Safe, phase_by, phase_of, before_moving, same_phase}
use Rattle.export_protocol.proofs.Lookups.{itself}
use Rattle.std.proofs.lemmas.List.{get_or_past}
use Rattle.std.proofs.lemmas.Bool.{cases_lt, eqb-true}

-- An exporter's state stays, or it wasn't logged and is aborted.
abbrev pub ExporterHalts : ExporterState → ExporterState → Type 0
ExporterHalts old new = (new ≡ old) ⊎ ((is_before_log old ≡ true) × (new ≡ Aborted))

-- An importer's state stays, or no entry gives it and it is unknown.
abbrev pub ImporterHalts : Bool → ImporterState → ImporterState → Type 0
ImporterHalts has_dropped old new =
    (new ≡ old) ⊎ ((new ≡ Unknown) × (is_started old ≡ false) × (is_imported old ≡ false) × (old ≡ Dropped → has_dropped ≡ false))

pub stop_exporter : (s : ExporterState) → ExporterHalts s (exporter_at_stop s)
stop_exporter Discovering = inr (refl, refl)
stop_exporter Freezing = inr (refl, refl)
stop_exporter Preparing = inr (refl, refl)
stop_exporter Exporting = inr (refl, refl)
stop_exporter Logged = inl refl
stop_exporter Done = inl refl
stop_exporter Aborted = inl refl

pub stop_importer : (b : Bool) (s : ImporterState) → ImporterHalts b s (importer_at_stop b s)
stop_importer b Started = inl refl
stop_importer b Imported = inl refl
stop_importer true Dropped = inl refl
stop_importer false Dropped = inr (refl, refl, refl, λ e. refl)
stop_importer true Unknown = inl refl
stop_importer false Unknown = inl refl
stop_importer true Discovered = inr (refl, refl, refl, λ e. absurd (cc))
stop_importer false Discovered = inr (refl, refl, refl, λ e. refl)
stop_importer true Prepared = inr (refl, refl, refl, λ e. absurd (cc))
stop_importer false Prepared = inr (refl, refl, refl, λ e. refl)

module _ (w : World) (safe : Safe w) (exporters : List ExporterState) (importers : List ImporterState) (tickets : List (Option Request)) (stopped : List Bool)
    (exporter_length : length exporters ≡ length w.exporters) (importer_length : length importers ≡ length w.importers)
    (exporting : (x : ℕ) → ExporterHalts (exporter_of w x) (get_or exporters x Aborted))
    (importing : (x : ℕ) → ImporterHalts (has w (to_of w x) (JournalEntry.Dropped x)) (importer_of w x) (get_or importers x Unknown))
    (still : (t : ℕ) (q : Request) → get_or tickets t None ≡ Some q → request_of w t ≡ Some q) where
  halt_phases : (x : ℕ) → (phase_by (get_or exporters x Aborted) (get_or importers x Unknown) ≡ phase_of w x) ⊎
      ((is_moving (phase_of w x) ≡ false) × (phase_by (get_or exporters x Aborted) (get_or importers x Unknown) ≡ Over))
  halt_phases x = elim (exporting x) [
    | inl e ↦ inl (rw e (same (importing x)))
    | inr p ↦ inr (before_moving (exporter_of w x) (importer_of w x) p.0, rw p.1 refl)
  ]
    where
      same : ImporterHalts (has w (to_of w x) (JournalEntry.Dropped x)) (importer_of w x) (get_or importers x Unknown) →
          phase_by (exporter_of w x) (get_or importers x Unknown) ≡ phase_by (exporter_of w x) (importer_of w x)
      same (inl e) = rw e refl
      same (inr p) = rw p.0 (same_phase (exporter_of w x) (importer_of w x) Unknown p.2 refl)

  pub halt_safe : Safe (record w { exporters = exporters; importers = importers; tickets = tickets; stopped = stopped })
  halt_safe = record {
    tables = halted_importers _ _ _ _ _ _ _ (halted_exporters _ _ _ _ _ _ _ safe.tables (λ x. get_or exporters x Aborted) exporting)
        (λ x. get_or importers x Unknown) importing;
    owning = halted_owning _ _ _ _ _ _ _ _ (λ t. get_or tickets t None) safe.owning safe.running halt_phases still;
    running = halted_running _ _ _ _ _ _ _ _ (λ t. get_or tickets t None) safe.owning safe.running halt_phases still;
    present = safe.present;
    numbered = safe.numbered;
    exporting = exporter_length ∙ safe.exporting;
    importing = importer_length ∙ safe.importing;
    ranked = safe.ranked;
    all_ranks = safe.all_ranks;
  }

module _ (w : World) (safe : Safe w) (rank : ℕ) where
  stop_tickets : (t : ℕ) (q : Request) → get_or (stops w rank).tickets t None ≡ Some q → request_of w t ≡ Some q
  stop_tickets t q h = elim (cases_lt t (length w.tickets)) [
    | inl near ↦ go (request_of w t) (sym (map_at_get (λ u request. ends_at rank request) w.tickets t None None near) ∙ h)
    | inr far ↦ absurd (cc (map_at_past (λ u request. ends_at rank request) w.tickets t None far, h))
  ]
    where
      go : (o : Option Request) → ends_at rank o ≡ Some q → o ≡ Some q
      go None k = k
      go (Some p) k = pass (eqb p.rank rank) p k
        where
          pass : (b : Bool) (r : Request) → cond b None (Some r) ≡ Some q → Some r ≡ Some q
          pass true r l = absurd (cc)
          pass false r l = l

-- A restarted rank's states by its journal are those that a stop would leave.

journal_exporter : (s : ExporterState) (n e : Bool) → n ≡ is_done s → e ≡ is_committed s → cond n Done (cond e Logged Aborted) ≡ exporter_at_stop s
journal_exporter s n e h k = grind arith

journal_importer : (i : ImporterState) (s m d : Bool) → m ≡ is_imported i → (s && not m && not d) ≡ is_started i → (d ≡ true → i ≡ Dropped) →
    cond m Imported (cond d Dropped (cond s Started Unknown)) ≡ importer_at_stop d i
journal_importer i s m d h k l = grind arith

module _ (w : World) (safe : Safe w) (rank : ℕ) where
  pub exporter_journaled : (x : ℕ) → exporter_by_journal w (from_of w x) x ≡ exporter_at_stop (exporter_of w x)
  exporter_journaled x = journal_exporter (exporter_of w x) (has w (from_of w x) (JournalEntry.Notified x)) (has w (from_of w x) (JournalEntry.Exported x))
      (rw (safe.tables.notified (from_of w x) x, itself (from_of w x)) refl) (rw (safe.tables.exported (from_of w x) x, itself (from_of w x)) refl)

  pub importer_journaled : (x : ℕ) → importer_by_journal w (to_of w x) x ≡ importer_at_stop (has w (to_of w x) (JournalEntry.Dropped x)) (importer_of w x)
  importer_journaled x = journal_importer (importer_of w x) (has w (to_of w x) (JournalEntry.Started x))
      (has w (to_of w x) (JournalEntry.Imported x)) (has w (to_of w x) (JournalEntry.Dropped x))
      (rw (safe.tables.imported (to_of w x) x, itself (to_of w x)) refl) (rw (safe.tables.importing (to_of w x) x, itself (to_of w x)) refl)
      (λ d. (safe.tables.dropped (to_of w x) x d).1)

  restart_exporters : (x : ℕ) → ExporterHalts (exporter_of w x) (get_or (restarts w rank).exporters x Aborted)
  restart_exporters x = elim (cases_lt x (length w.exporters)) [
    | inl near ↦ rw (map_at_get (λ y state. cond (eqb (from_of w y) rank) (exporter_by_journal w rank y) state) w.exporters x Aborted
        Aborted near) (go (eqb (from_of w x) rank) refl)
    | inr far ↦ inl (map_at_past (λ y state. cond (eqb (from_of w y) rank) (exporter_by_journal w rank y) state) w.exporters x Aborted far
        ∙ sym (get_or_past w.exporters x Aborted far))
  ]
    where
      go : (b : Bool) → eqb (from_of w x) rank ≡ b → ExporterHalts (exporter_of w x) (cond b (exporter_by_journal w rank x) (exporter_of w x))
      go true e =
          let j : exporter_by_journal w rank x ≡ exporter_at_stop (exporter_of w x) =
          subst (λ r. exporter_by_journal w r x ≡ exporter_at_stop (exporter_of w x)) (eqb-true (from_of w x) rank e)
          (exporter_journaled x) in
          subst (λ s. ExporterHalts (exporter_of w x) s) (sym j) (stop_exporter (exporter_of w x))
      go false e = inl refl

  restart_importers : (x : ℕ) → ImporterHalts (has w (to_of w x) (JournalEntry.Dropped x)) (importer_of w x) (get_or (restarts w rank).importers x Unknown)
  restart_importers x = elim (cases_lt x (length w.importers)) [
    | inl near ↦ rw (map_at_get (λ y state. cond (eqb (to_of w y) rank) (importer_by_journal w rank y) state) w.importers x Unknown Unknown
        near) (go (eqb (to_of w x) rank) refl)
    | inr far ↦ inl (map_at_past (λ y state. cond (eqb (to_of w y) rank) (importer_by_journal w rank y) state) w.importers x Unknown far
        ∙ sym (get_or_past w.importers x Unknown far))
  ]
    where
      go : (b : Bool) → eqb (to_of w x) rank ≡ b →
          ImporterHalts (has w (to_of w x) (JournalEntry.Dropped x)) (importer_of w x) (cond b (importer_by_journal w rank x) (importer_of w x))
      go true e =
          let j : importer_by_journal w rank x ≡ importer_at_stop (has w (to_of w x) (JournalEntry.Dropped x)) (importer_of w x) =
          subst (λ r. importer_by_journal w r x ≡ importer_at_stop (has w (to_of w x) (JournalEntry.Dropped x)) (importer_of w x))
          (eqb-true (to_of w x) rank e) (importer_journaled x) in
          subst (λ s. ImporterHalts (has w (to_of w x) (JournalEntry.Dropped x)) (importer_of w x) s) (sym j)
          (stop_importer (has w (to_of w x) (JournalEntry.Dropped x)) (importer_of w x))
      go false e = inl refl

  pub stop_keeps : Safe (happens w (Stop rank)).world
  unfolding happens
  stop_keeps = halt_safe w safe (stops w rank).exporters (stops w rank).importers (stops w rank).tickets (stops w rank).stopped
      (map_at_length (λ x state. cond (eqb (from_of w x) rank) (exporter_by_journal w rank x) state) w.exporters)
      (map_at_length (λ x state. cond (eqb (to_of w x) rank) (importer_by_journal w rank x) state) w.importers)
      restart_exporters restart_importers (stop_tickets w safe rank)

  pub restart_keeps : Safe (happens w (Restart rank)).world
  unfolding happens
  restart_keeps = go (is_stopped w rank)
    where
      go : (b : Bool) → Safe (cond b (changed (restarts w rank)) (ignored w)).world
      go true = halt_safe w safe (restarts w rank).exporters (restarts w rank).importers w.tickets (restarts w rank).stopped
          (map_at_length (λ x state. cond (eqb (from_of w x) rank) (exporter_by_journal w rank x) state) w.exporters)
          (map_at_length (λ x state. cond (eqb (to_of w x) rank) (importer_by_journal w rank x) state) w.importers)
          restart_exporters restart_importers (λ t q h. h)
      go false = safe
