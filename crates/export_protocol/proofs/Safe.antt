-- What holds of every world that events lead to from the start, and that each event keeps it.
use Rattle.std.proofs.Common.{◌≡◌, ◌≢◌, ℕ, ◌<◌, Bool, true, false, cond, [], ◌∷◌, ◌++◌, length, Option, Some, None, refl, sym, ap, ◌∙◌, inl, inr, arith}
use Rattle.std.specs.Option.{is_some}
use Rattle.std.specs.List.{slice_get}
use Rattle.export_protocol.specs.declared.exporter.ExporterState.{ExporterState}
use Rattle.export_protocol.specs.declared.importer.ImporterState.{ImporterState}
use Rattle.export_protocol.specs.declared.journal.JournalEntry.{JournalEntry}
use Rattle.export_protocol.specs.declared.message.Message.{Message}
use Rattle.export_protocol.specs.declared.event.Request.{Request}
use Rattle.export_protocol.specs.Cluster.{World}
use Rattle.export_protocol.specs.declared.exporter.ExporterState.TheVariants.{Discovering, Freezing, Preparing, Exporting, Logged, Done, Aborted}
use Rattle.export_protocol.specs.declared.importer.ImporterState.TheVariants.{Unknown, Discovered, Prepared, Started, Imported, Dropped}
use Rattle.export_protocol.specs.declared.message.Message.TheVariants.{ExportAck, Finish, Cancel}
use Rattle.export_protocol.specs.Authority.{is_inside, from_of, to_of, exporter_of, importer_of, named_of, is_present, request_of, has, owned_after, owns}
use Rattle.export_protocol.specs.Step.{exporter_to, importer_to, journals, names_importer, is_started, is_before_log}
use Rattle.export_protocol.proofs.Owning.{Phase, is_moving, Owning, Running, same_owning, same_running}
use Rattle.export_protocol.proofs.Owning.{held_owning, held_running, abort_owning, abort_running, log_owning, log_running}
use Rattle.export_protocol.proofs.Owning.{notify_owning, notify_running, import_owning, import_running}
use Rattle.export_protocol.proofs.Owning.Phase.{Early, Held, Moving, Told, Over}
use Rattle.export_protocol.proofs.Tables.{Tables, is_plain, together, is_imported, sent_plain, sent_finish}
use Rattle.export_protocol.proofs.Tables.{sent_cancel, sent_ack, early_tables, abort_tables, log_tables, notify_tables}
use Rattle.export_protocol.proofs.Tables.{import_early_tables, started_tables, imported_tables, dropped_tables}
use Rattle.export_protocol.specs.Step.{about}
use Rattle.export_protocol.proofs.Views.{push_get, not_past, has_adds, owns_at, owns_other, map_at_get, map_at_past, map_at_length}
use Rattle.std.proofs.lemmas.List.{get_or-set_same, get_or-set_other, get_or_past, length-set}
use Rattle.std.proofs.lemmas.Bool.{cases_lt, cases_Bool, cases_eq}

abbrev pub phase_by : ExporterState → ImporterState → Phase
phase_by Discovering i = Early
phase_by Freezing i = Early
phase_by Preparing i = Held
phase_by Exporting i = Held
phase_by Logged i = Moving
phase_by Done Imported = Over
phase_by Done Unknown = Told
phase_by Done Discovered = Told
phase_by Done Prepared = Told
phase_by Done Started = Told
phase_by Done Dropped = Told
phase_by Aborted i = Over

pub before_moving : (e : ExporterState) (i : ImporterState) → is_before_log e ≡ true → is_moving (phase_by e i) ≡ false
before_moving e i h = grind arith

pub told : (i : ImporterState) → is_imported i ≡ false → phase_by Done i ≡ Told
told i h = grind arith

pub told_started : (i : ImporterState) → is_started i ≡ true → phase_by Done i ≡ Told
told_started i h = grind arith

pub same_phase : (e : ExporterState) (i j : ImporterState) → is_imported i ≡ false → is_imported j ≡ false → phase_by e j ≡ phase_by e i
same_phase e i j h k = grind arith

abbrev pub phase_of : World → ℕ → Phase
phase_of w x = phase_by (exporter_of w x) (importer_of w x)

abbrev pub message_of : World → ℕ → Option Message
message_of w k = slice_get w.sent k

pub record Safe (w : World) : Type 0 where
  pub tables : Tables (length w.orders) (from_of w) (to_of w) (exporter_of w) (importer_of w) (has w) (message_of w)
  pub owning : Owning (is_inside w) (from_of w) (to_of w) (phase_of w) (owns w) (named_of w)
  pub running : Running (is_inside w) (phase_of w) (owns w) (request_of w)
  pub present : (d : ℕ) → is_present w d ≡ is_some (named_of w d)
  pub numbered : length w.parents ≡ length w.named
  pub exporting : length w.exporters ≡ length w.orders
  pub importing : length w.importers ≡ length w.orders
  pub ranked : (x : ℕ) → x < length w.orders → (from_of w x < length w.journals) × (to_of w x < length w.journals)
  pub all_ranks : length w.journals ≡ w.ranks

-- a message is sent
abbrev pub with_message : World → Message → World
with_message w m = record w { sent = w.sent ++ m ∷ [] }

module _ (w : World) (safe : Safe w) (m : Message) where
  pub send_safe : Tables (length w.orders) (from_of w) (to_of w) (exporter_of w) (importer_of w) (has w) (message_of (with_message w m))
      → Safe (with_message w m)
  send_safe t = record {
    tables = t;
    owning = safe.owning;
    running = safe.running;
    present = safe.present;
    numbered = safe.numbered;
    exporting = safe.exporting;
    importing = safe.importing;
    ranked = safe.ranked;
    all_ranks = safe.all_ranks;
  }

  pub plain_safe : is_plain m ≡ true → about m < length w.orders → Safe (with_message w m)
  plain_safe p n = send_safe (sent_plain _ _ _ _ _ _ _ safe.tables _ m (push_get w.sent m) p n)

module _ (w : World) (safe : Safe w) (x : ℕ) where
  pub finish_safe : exporter_of w x ≡ Done → x < length w.orders → Safe (with_message w (Finish x))
  finish_safe e n = send_safe w safe (Finish x) (sent_finish _ _ _ _ _ _ _ safe.tables _ x (push_get w.sent (Finish x)) e n)

  pub cancel_safe : exporter_of w x ≡ Aborted → x < length w.orders → Safe (with_message w (Cancel x))
  cancel_safe e n = send_safe w safe (Cancel x) (sent_cancel _ _ _ _ _ _ _ safe.tables _ x (push_get w.sent (Cancel x)) e n)

  pub ack_safe : importer_of w x ≡ Started → x < length w.orders → Safe (with_message w (ExportAck x))
  ack_safe e n = send_safe w safe (ExportAck x) (sent_ack _ _ _ _ _ _ _ safe.tables _ x (push_get w.sent (ExportAck x)) e n)

-- Only the exporter's state of x changes.
module _ (w : World) (safe : Safe w) (x : ℕ) (s : ExporterState) (near : x < length w.exporters) where
  pub exporter_at : exporter_of (exporter_to w x s) x ≡ s
  exporter_at = get_or-set_same w.exporters x s Aborted near

  exporter_others : (y : ℕ) → y ≢ x → exporter_of (exporter_to w x s) y ≡ exporter_of w y
  exporter_others y n = get_or-set_other w.exporters x y s Aborted n

  pub exporter_phases : (y : ℕ) → y ≢ x → phase_of (exporter_to w x s) y ≡ phase_of w y
  exporter_phases y n = ap (λ e. phase_by e (importer_of w y)) (exporter_others y n)

  -- within one phase
  pub early_safe : is_before_log (exporter_of w x) ≡ true → is_before_log s ≡ true →
      phase_by s (importer_of w x) ≡ phase_of w x → Safe (exporter_to w x s)
  early_safe was is same =
      let phases : (y : ℕ) → phase_of (exporter_to w x s) y ≡ phase_of w y =
      λ y. elim (cases_eq y x) [ inl e ↦ rw (e, exporter_at) same | inr n ↦ exporter_phases y n ] in
      record {
        tables = early_tables _ _ _ _ _ _ _ safe.tables (exporter_of (exporter_to w x s)) x exporter_others was (rw exporter_at is);
        owning = same_owning _ _ _ _ _ _ _ _ (request_of w) safe.owning safe.running phases (λ r d. refl);
        running = same_running _ _ _ _ _ _ _ _ _ safe.owning safe.running phases (λ r d. refl);
        present = safe.present;
        numbered = safe.numbered;
        exporting = length-set w.exporters x s ∙ safe.exporting;
        importing = safe.importing;
        ranked = safe.ranked;
        all_ranks = safe.all_ranks;
      }

  -- requests on x's directories have ended
  pub froze_safe : exporter_of w x ≡ Freezing → s ≡ Preparing → ((t : ℕ) (q : Request) → request_of w t ≡ Some q → is_inside w x q.dir ≡ false) →
      Safe (exporter_to w x s)
  froze_safe was is ended =
      let early : phase_of w x ≡ Early = rw was refl in
      let held : phase_of (exporter_to w x s) x ≡ Held = rw (exporter_at, is) refl in
      record {
        tables = early_tables _ _ _ _ _ _ _ safe.tables (exporter_of (exporter_to w x s)) x exporter_others (rw was refl) (rw (exporter_at, is) refl);
        owning = held_owning _ _ _ _ _ _ _ _ x safe.owning safe.running exporter_phases early held;
        running = held_running _ _ _ _ _ _ _ _ x safe.owning safe.running exporter_phases early held ended;
        present = safe.present;
        numbered = safe.numbered;
        exporting = length-set w.exporters x s ∙ safe.exporting;
        importing = safe.importing;
        ranked = safe.ranked;
        all_ranks = safe.all_ranks;
      }

  pub aborted_safe : is_before_log (exporter_of w x) ≡ true → s ≡ Aborted → Safe (exporter_to w x s)
  aborted_safe was is =
      let over : phase_of (exporter_to w x s) x ≡ Over = rw (exporter_at, is) refl in
      record {
        tables = abort_tables _ _ _ _ _ _ _ safe.tables (exporter_of (exporter_to w x s)) x exporter_others was (exporter_at ∙ is);
        owning = abort_owning _ _ _ _ _ _ _ _ x safe.owning safe.running exporter_phases (before_moving (exporter_of w x) (importer_of w x) was) over;
        running = abort_running _ _ _ _ _ _ _ _ x safe.owning safe.running exporter_phases over;
        present = safe.present;
        numbered = safe.numbered;
        exporting = length-set w.exporters x s ∙ safe.exporting;
        importing = safe.importing;
        ranked = safe.ranked;
        all_ranks = safe.all_ranks;
      }

-- The exporter logs x.
module _ (w : World) (safe : Safe w) (x : ℕ) (was : exporter_of w x ≡ Exporting) (started : importer_of w x ≡ Started) where
  pub log_near : x < length w.exporters
  log_near = not_past w.exporters x Aborted Exporting was (λ e. cc)

  log_rank : from_of w x < length w.journals
  log_rank = (safe.ranked x (omega (arith, log_near, safe.exporting))).0

  pub log_outside : (r d : ℕ) → is_inside w x d ≡ false → owns (journals (exporter_to w x Logged) (from_of w x) (JournalEntry.Exported x)) r d ≡ owns w r d
  log_outside r d h = elim (cases_eq r (from_of w x)) [
    | inl e ↦ rw (e, owns_at (exporter_to w x Logged) (from_of w x) (JournalEntry.Exported x) log_rank d, h) refl
    | inr n ↦ owns_other (exporter_to w x Logged) (from_of w x) (JournalEntry.Exported x) log_rank r d n
  ]

  pub log_lost : (d : ℕ) → is_inside w x d ≡ true → owns (journals (exporter_to w x Logged) (from_of w x) (JournalEntry.Exported x)) (from_of w x) d ≡ false
  log_lost d h = rw (owns_at (exporter_to w x Logged) (from_of w x) (JournalEntry.Exported x) log_rank d, h) refl

  pub log_safe : Safe (journals (exporter_to w x Logged) (from_of w x) (JournalEntry.Exported x))
  log_safe =
      let at : exporter_of (exporter_to w x Logged) x ≡ Logged = exporter_at w safe x Logged log_near in
      let held : phase_of w x ≡ Held = rw was refl in
      let moves : phase_of (exporter_to w x Logged) x ≡ Moving = rw at refl in
      record {
        tables = log_tables _ _ _ _ _ _ _ safe.tables (exporter_of (exporter_to w x Logged)) _ x (exporter_others w safe x Logged log_near)
            (has_adds (exporter_to w x Logged) (from_of w x) (JournalEntry.Exported x) log_rank) was started at;
        owning = log_owning _ _ _ _ _ _ _ _ _ x safe.owning safe.running held moves (exporter_phases w safe x Logged log_near)
            log_lost (λ r d n. owns_other (exporter_to w x Logged) (from_of w x) (JournalEntry.Exported x) log_rank r d n) log_outside;
        running = log_running _ _ _ _ _ _ _ _ _ x safe.owning safe.running held moves (exporter_phases w safe x Logged log_near)
            log_lost (λ r d n. owns_other (exporter_to w x Logged) (from_of w x) (JournalEntry.Exported x) log_rank r d n) log_outside;
        present = safe.present;
        numbered = safe.numbered;
        exporting = length-set w.exporters x Logged ∙ safe.exporting;
        importing = safe.importing;
        ranked = λ y h. rw (length-set w.journals (from_of w x)) (safe.ranked y h);
        all_ranks = rw (length-set w.journals (from_of w x)) safe.all_ranks;
      }

-- The exporter notifies.
module _ (w : World) (safe : Safe w) (x : ℕ) (was : exporter_of w x ≡ Logged) where
  notify_near : x < length w.exporters
  notify_near = not_past w.exporters x Aborted Logged was (λ e. cc)

  notify_rank : from_of w x < length w.journals
  notify_rank = (safe.ranked x (omega (arith, notify_near, safe.exporting))).0

  notify_owns : (r d : ℕ) → owns (journals (exporter_to w x Done) (from_of w x) (JournalEntry.Notified x)) r d ≡ owns w r d
  notify_owns r d = elim (cases_eq r (from_of w x)) [
    | inl e ↦ rw (e, owns_at (exporter_to w x Done) (from_of w x) (JournalEntry.Notified x) notify_rank d) refl
    | inr n ↦ owns_other (exporter_to w x Done) (from_of w x) (JournalEntry.Notified x) notify_rank r d n
  ]

  notify_started : is_started (importer_of w x) ≡ true
  notify_started = rw was at (safe.tables.paired x)

  notify_named : (d : ℕ) → is_inside w x d ≡ true → named_of w d ≡ Some (from_of w x)
  notify_named d h = rw was at (safe.owning.placed x d h (rw was refl))

  notify_told : (d : ℕ) → is_inside w x d ≡ true → named_of (names_importer w x) d ≡ Some (to_of w x)
  notify_told d h =
      let near : d < length w.named = not_past w.named d None (Some (from_of w x)) (notify_named d h) (λ e. cc) in
      rw (map_at_get (λ c rank. cond (is_inside w x c) (Some (to_of w x)) rank) w.named d None None near, h) refl

  notify_outside : (d : ℕ) → is_inside w x d ≡ false → named_of (names_importer w x) d ≡ named_of w d
  notify_outside d h = elim (cases_lt d (length w.named)) [
    | inl near ↦ rw (map_at_get (λ c rank. cond (is_inside w x c) (Some (to_of w x)) rank) w.named d None None near, h) refl
    | inr far ↦ map_at_past (λ c rank. cond (is_inside w x c) (Some (to_of w x)) rank) w.named d None far ∙ sym (get_or_past w.named d None far)
  ]

  notify_present : (d : ℕ) → is_present w d ≡ is_some (named_of (names_importer w x) d)
  notify_present d = elim (cases_Bool (is_inside w x d)) [
    | inl h ↦ rw (notify_told d h, safe.present d, notify_named d h) refl
    | inr h ↦ rw (notify_outside d h) (safe.present d)
  ]

  pub notify_safe : Safe (names_importer (journals (exporter_to w x Done) (from_of w x) (JournalEntry.Notified x)) x)
  notify_safe =
      let at : exporter_of (exporter_to w x Done) x ≡ Done = exporter_at w safe x Done notify_near in
      let moving : phase_of w x ≡ Moving = rw was refl in
      let tells : phase_of (exporter_to w x Done) x ≡ Told = rw at (told_started (importer_of w x) notify_started) in
      let owning : Owning (is_inside w) (from_of w) (to_of w) (phase_of w)
      (owns (journals (exporter_to w x Done) (from_of w x) (JournalEntry.Notified x))) (named_of w) =
      same_owning _ _ _ _ _ _ _ _ (request_of w) safe.owning safe.running (λ y. refl) notify_owns in
      let running : Running (is_inside w) (phase_of w) (owns (journals (exporter_to w x Done) (from_of w x) (JournalEntry.Notified x))) (request_of w) =
      same_running _ _ _ _ _ _ _ _ _ safe.owning safe.running (λ y. refl) notify_owns in
      record {
        tables = notify_tables _ _ _ _ _ _ _ safe.tables (exporter_of (exporter_to w x Done)) _ x (exporter_others w safe x Done notify_near)
            (has_adds (exporter_to w x Done) (from_of w x) (JournalEntry.Notified x) notify_rank) was at;
        owning = notify_owning _ _ _ _ _ _ _ _ _ x owning running moving tells (exporter_phases w safe x Done notify_near) notify_told notify_outside;
        running = notify_running _ _ _ _ _ _ (named_of w) (named_of (names_importer w x)) _ x owning running moving tells
            (exporter_phases w safe x Done notify_near) notify_told notify_outside;
        present = notify_present;
        numbered = safe.numbered ∙ sym (map_at_length (λ c rank. cond (is_inside w x c) (Some (to_of w x)) rank) w.named);
        exporting = length-set w.exporters x Done ∙ safe.exporting;
        importing = safe.importing;
        ranked = λ y h. rw (length-set w.journals (from_of w x)) (safe.ranked y h);
        all_ranks = rw (length-set w.journals (from_of w x)) safe.all_ranks;
      }

-- The importer's state of x changes.
module _ (w : World) (safe : Safe w) (x : ℕ) (s : ImporterState) (near : x < length w.importers) where
  pub importer_at : importer_of (importer_to w x s) x ≡ s
  importer_at = get_or-set_same w.importers x s Unknown near

  importer_others : (y : ℕ) → y ≢ x → importer_of (importer_to w x s) y ≡ importer_of w y
  importer_others y n = get_or-set_other w.importers x y s Unknown n

  pub importer_phases : (y : ℕ) → y ≢ x → phase_of (importer_to w x s) y ≡ phase_of w y
  importer_phases y n = ap (λ i. phase_by (exporter_of w y) i) (importer_others y n)

  importer_same : is_imported (importer_of w x) ≡ false → is_imported s ≡ false → (y : ℕ) → phase_of (importer_to w x s) y ≡ phase_of w y
  importer_same h k y = elim (cases_eq y x) [
    | inl e ↦ rw (e, importer_at) (same_phase (exporter_of w x) (importer_of w x) s h k)
    | inr n ↦ importer_phases y n
  ]

  -- before it starts, or to dropped without having started
  pub import_early_safe : together (exporter_of w x) s ≡ true → is_imported (importer_of w x) ≡ false → is_imported s ≡ false →
      is_started (importer_of w x) ≡ false → is_started s ≡ false → (importer_of w x ≡ Dropped → s ≡ Dropped) → Safe (importer_to w x s)
  import_early_safe pair imp imp' sta sta' drop = record {
    tables = import_early_tables _ _ _ _ _ _ _ safe.tables (importer_of (importer_to w x s)) x importer_others
        (rw importer_at pair) imp (rw importer_at imp') sta (rw importer_at sta') (λ e. importer_at ∙ drop e);
    owning = same_owning _ _ _ _ _ _ _ _ (request_of w) safe.owning safe.running (importer_same imp imp') (λ r d. refl);
    running = same_running _ _ _ _ _ _ _ _ _ safe.owning safe.running (importer_same imp imp') (λ r d. refl);
    present = safe.present;
    numbered = safe.numbered;
    exporting = safe.exporting;
    importing = length-set w.importers x s ∙ safe.importing;
    ranked = safe.ranked;
    all_ranks = safe.all_ranks;
  }

-- The importer starts, and drops what it had started.
module _ (w : World) (safe : Safe w) (x : ℕ) (s : ImporterState) (e : JournalEntry) (near : x < length w.importers)
    (plain : (d : ℕ) (b : Bool) → owned_after w.orders d b e ≡ b) where
  quiet_rank : to_of w x < length w.journals
  quiet_rank = (safe.ranked x (omega (arith, near, safe.importing))).1

  quiet_owns : (r d : ℕ) → owns (journals (importer_to w x s) (to_of w x) e) r d ≡ owns w r d
  quiet_owns r d = elim (cases_eq r (to_of w x)) [
    | inl i ↦ rw (i, owns_at (importer_to w x s) (to_of w x) e quiet_rank d) (plain d (owns w (to_of w x) d))
    | inr n ↦ owns_other (importer_to w x s) (to_of w x) e quiet_rank r d n
  ]

  quiet_safe : is_imported (importer_of w x) ≡ false → is_imported s ≡ false →
      Tables (length w.orders) (from_of w) (to_of w) (exporter_of w) (importer_of (importer_to w x s))
      (has (journals (importer_to w x s) (to_of w x) e)) (message_of w) →
      Safe (journals (importer_to w x s) (to_of w x) e)
  quiet_safe imp imp' t = record {
    tables = t;
    owning = same_owning _ _ _ _ _ _ _ _ (request_of w) safe.owning safe.running (importer_same w safe x s near imp imp') quiet_owns;
    running = same_running _ _ _ _ _ _ _ _ _ safe.owning safe.running (importer_same w safe x s near imp imp') quiet_owns;
    present = safe.present;
    numbered = safe.numbered;
    exporting = safe.exporting;
    importing = length-set w.importers x s ∙ safe.importing;
    ranked = λ y h. rw (length-set w.journals (to_of w x)) (safe.ranked y h);
    all_ranks = rw (length-set w.journals (to_of w x)) safe.all_ranks;
  }

module _ (w : World) (safe : Safe w) (x : ℕ) where
  pub started_safe : importer_of w x ≡ Prepared → Safe (journals (importer_to w x Started) (to_of w x) (JournalEntry.Started x))
  started_safe was =
      let near : x < length w.importers = not_past w.importers x Unknown Prepared was (λ e. cc) in
      quiet_safe w safe x Started (JournalEntry.Started x) near (λ d b. refl) (rw was refl) refl
      (started_tables _ _ _ _ _ _ _ safe.tables (importer_of (importer_to w x Started)) _ x (importer_others w safe x Started near)
      (has_adds (importer_to w x Started) (to_of w x) (JournalEntry.Started x) (quiet_rank w safe x Started (JournalEntry.Started x) near (λ d b. refl)))
      was (importer_at w safe x Started near))

  pub dropped_safe : importer_of w x ≡ Started → exporter_of w x ≡ Aborted → Safe (journals (importer_to w x Dropped) (to_of w x) (JournalEntry.Dropped x))
  dropped_safe was aborted =
      let near : x < length w.importers = not_past w.importers x Unknown Started was (λ e. cc) in
      quiet_safe w safe x Dropped (JournalEntry.Dropped x) near (λ d b. refl) (rw was refl) refl
      (dropped_tables _ _ _ _ _ _ _ safe.tables (importer_of (importer_to w x Dropped)) _ x (importer_others w safe x Dropped near)
      (has_adds (importer_to w x Dropped) (to_of w x) (JournalEntry.Dropped x) (quiet_rank w safe x Dropped (JournalEntry.Dropped x) near (λ d b. refl)))
      was aborted (importer_at w safe x Dropped near))

-- The importer imports x.
module _ (w : World) (safe : Safe w) (x : ℕ) (was : importer_of w x ≡ Started) (done : exporter_of w x ≡ Done) where
  pub import_near : x < length w.importers
  import_near = not_past w.importers x Unknown Started was (λ e. cc)

  import_rank : to_of w x < length w.journals
  import_rank = (safe.ranked x (omega (arith, import_near, safe.importing))).1

  pub import_outside : (r d : ℕ) → is_inside w x d ≡ false → owns (journals (importer_to w x Imported) (to_of w x) (JournalEntry.Imported x)) r d ≡ owns w r d
  import_outside r d h = elim (cases_eq r (to_of w x)) [
    | inl e ↦ rw (e, owns_at (importer_to w x Imported) (to_of w x) (JournalEntry.Imported x) import_rank d, h) refl
    | inr n ↦ owns_other (importer_to w x Imported) (to_of w x) (JournalEntry.Imported x) import_rank r d n
  ]

  pub import_won : (d : ℕ) → is_inside w x d ≡ true → owns (journals (importer_to w x Imported) (to_of w x) (JournalEntry.Imported x)) (to_of w x) d ≡ true
  import_won d h = rw (owns_at (importer_to w x Imported) (to_of w x) (JournalEntry.Imported x) import_rank d, h) refl

  pub imported_safe : Safe (journals (importer_to w x Imported) (to_of w x) (JournalEntry.Imported x))
  imported_safe =
      let at : importer_of (importer_to w x Imported) x ≡ Imported = importer_at w safe x Imported import_near in
      let told_then : phase_of w x ≡ Told = rw (done, was) refl in
      let over : phase_of (importer_to w x Imported) x ≡ Over = rw (done, at) refl in
      record {
        tables = imported_tables _ _ _ _ _ _ _ safe.tables (importer_of (importer_to w x Imported)) _ x (importer_others w safe x Imported import_near)
            (has_adds (importer_to w x Imported) (to_of w x) (JournalEntry.Imported x) import_rank) was done at;
        owning = import_owning _ _ _ _ _ _ _ _ _ x safe.owning safe.running told_then over (importer_phases w safe x Imported import_near)
            import_won (λ r d n. owns_other (importer_to w x Imported) (to_of w x) (JournalEntry.Imported x) import_rank r d n) import_outside;
        running = import_running _ _ _ _ _ _ _ _ _ x safe.owning safe.running told_then over (importer_phases w safe x Imported import_near)
            import_won (λ r d n. owns_other (importer_to w x Imported) (to_of w x) (JournalEntry.Imported x) import_rank r d n) import_outside;
        present = safe.present;
        numbered = safe.numbered;
        exporting = safe.exporting;
        importing = length-set w.importers x Imported ∙ safe.importing;
        ranked = λ y h. rw (length-set w.journals (to_of w x)) (safe.ranked y h);
        all_ranks = rw (length-set w.journals (to_of w x)) safe.all_ranks;
      }
