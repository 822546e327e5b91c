-- How the tables by directory follow each message.
use Rattle.std.proofs.Common.{◌≡◌, ◌≢◌, ℕ, ◌<◌, Bool, true, false, ◌&&◌, ◌||◌, not, eqb, cond, List}
use Rattle.std.proofs.Common.{length, get_or, set, Some, None, refl, sym, ap, ◌∙◌, inl, inr, arith}
use Rattle.std.proofs.lemmas.Bool.{cases_eq}
use Rattle.std.specs.List.{slice_get}
use Rattle.export_protocol.specs.declared.exporter.ExporterState.{ExporterState}
use Rattle.export_protocol.specs.declared.importer.ImporterState.{ImporterState}
use Rattle.export_protocol.specs.declared.journal.JournalEntry.{JournalEntry}
use Rattle.export_protocol.specs.declared.message.Message.{Message}
use Rattle.export_protocol.specs.declared.exporter.ExporterState.TheVariants.{Exporting, Logged, Done, Aborted}
use Rattle.export_protocol.specs.declared.importer.ImporterState.TheVariants.{Prepared, Started, Imported, Dropped}
use Rattle.export_protocol.specs.declared.message.Message.TheVariants.{ExportAck, Finish, Cancel}
use Rattle.export_protocol.specs.Cluster.{World}
use Rattle.export_protocol.specs.Authority.{is_inside, from_of, to_of, exporter_of, importer_of, has, owns}
use Rattle.export_protocol.specs.Authority.{owned_after, is_same, authority, is_open, is_aborted, open_export}
use Rattle.export_protocol.specs.Step.{map_at, exporter_to, importer_to, journals, names_importer, is_started, is_before_log}
use Rattle.export_protocol.specs.View.{IsReached}
use Rattle.export_machine.specs.Kept.{Indexes, IsIndexed, AreListed}
use Rattle.std.proofs.lemmas.List.{length-set}
use Rattle.export_protocol.proofs.Owning.{is_moving, is_over}
use Rattle.export_protocol.proofs.Views.{map_at_length, has_adds, owns_at, owns_other, not_past}
use Rattle.export_protocol.proofs.Safe.{Safe, phase_by, phase_of, exporter_at, exporter_phases, importer_at}
use Rattle.export_protocol.proofs.Safe.{importer_phases, started_safe, dropped_safe, notify_safe, same_phase}
use Rattle.export_protocol.proofs.Lookups.{itself, inside_there}
use Rattle.export_protocol.proofs.Deliver.{ack_started}
use Rattle.export_protocol.proofs.Walks.{quiet_authority, logged_inside, logged_outside}
use Rattle.export_machine.proofs.Owners.{finish_authority}
use Rattle.export_protocol.proofs.Found.{options_by}
use Rattle.export_machine.proofs.Listed.{exporter_listed, importer_listed, entry_listed, entry_drops_none, dropped_listed}
use Rattle.export_machine.proofs.Indexing.{same_indexed, open_stays, exporter_open, entry_open, marked, shut_opened}

-- only states and messages change

pub importer_indexed : (w : World) (i : Indexes) → IsIndexed w i
    → (importers : List ImporterState) (ms : List Message) (open_at : List (List ℕ))
    → AreListed w.ranks w.orders w.exporters importers w.journals open_at i.dropped →
    IsIndexed (record w { importers = importers; sent = ms }) (record i { open_at = open_at })
unfolding authority open_export
importer_indexed w i is importers ms open_at l = record {
  owners = is.owners;
  opened = is.opened;
  running = is.running;
  children = is.children;
  owner_places = is.owner_places;
  opened_places = is.opened_places;
  running_places = is.running_places;
  children_places = is.children_places;
  unmarked = is.unmarked;
  requests = is.requests;
  listed = l;
  dropped_places = is.dropped_places;
}

pub exporter_indexed : (w : World) (i : Indexes) (x : ℕ) (s : ExporterState) → IsIndexed w i → is_aborted (exporter_of w x) ≡ is_aborted s →
    (is_before_log s ≡ true → is_before_log (exporter_of w x) ≡ true) → (ms : List Message) → IsIndexed (record (exporter_to w x s) { sent = ms }) i
unfolding authority
exporter_indexed w i x s is e f ms = same_indexed w (record (exporter_to w x s) { sent = ms }) i is (λ d. refl)
    (λ d. open_stays (exporter_to w x s) (record (exporter_to w x s) { sent = ms }) refl (λ y. refl) d ∙ exporter_open w x s e d) refl refl refl i.dropped
    (exporter_listed w.ranks w.orders w.exporters w.importers w.journals i.open_at i.dropped is.listed x s f) is.dropped_places

-- an entry that moves nothing

module _ (w : World) (x : ℕ) (s : ImporterState) (e : JournalEntry) (ms : List Message) (near : x < length w.importers) (ranked : to_of w x < length w.journals)
    (plain : (d : ℕ) (o : Bool) → owned_after w.orders d o e ≡ o) (elsewhere : (y : ℕ) → is_same e (JournalEntry.Imported y) ≡ false) where
  abbrev pub noted : World
  noted = record (journals (importer_to w x s) (to_of w x) e) { sent = ms }

  noted_owns : (r d : ℕ) → owns (journals (importer_to w x s) (to_of w x) e) r d ≡ owns w r d
  noted_owns r d = elim (cases_eq r (to_of w x)) [
    | inl k ↦ rw k (owns_at (importer_to w x s) (to_of w x) e ranked d ∙ plain d (owns w (to_of w x) d))
    | inr n ↦ owns_other (importer_to w x s) (to_of w x) e ranked r d n
  ]

  noted_authority : (safe : Safe w) → Safe (journals (importer_to w x s) (to_of w x) e) → phase_by (exporter_of w x) s ≡ phase_of w x → (d : ℕ) →
      authority (journals (importer_to w x s) (to_of w x) e) d ≡ authority w d
  noted_authority safe safe' p d = quiet_authority w (journals (importer_to w x s) (to_of w x) e) safe safe' refl d (λ r. noted_owns r d)
      (λ y j m. (j, rw (phases y) m, refl)) (λ y j m. (j, rw (phases y) at m))
    where
      phases : (y : ℕ) → phase_of (importer_to w x s) y ≡ phase_of w y
      phases y = elim (cases_eq y x) [
        | inl k ↦ rw (k, importer_at w safe x s near) p
        | inr n ↦ importer_phases w safe x s near y n
      ]

  noted_open : (d : ℕ) → open_export (journals (importer_to w x s) (to_of w x) e) d ≡ open_export w d
  noted_open d = entry_open (importer_to w x s) (to_of w x) e ranked elsewhere d
      ∙ open_stays w (importer_to w x s) refl (λ y. refl) d

  pub noted_indexed : IsReached w → (i : Indexes) → IsIndexed w i
      → ((safe : Safe w) → Safe (journals (importer_to w x s) (to_of w x) e) × (phase_by (exporter_of w x) s ≡ phase_of w x)) →
      (ns : List Bool) → AreListed noted.ranks noted.orders noted.exporters noted.importers noted.journals i.open_at ns
      → length ns ≡ length w.orders → IsIndexed noted (record i { dropped = ns })
  unfolding authority
  noted_indexed r i is f ns l c = same_indexed w noted i is
      (λ d. options_by w r (authority noted d) (authority w d) (λ safe. noted_authority safe (f safe).0 (f safe).1 d))
      (λ d. open_stays (journals (importer_to w x s) (to_of w x) e) noted refl (λ y. refl) d ∙ noted_open d) refl refl refl ns l c

pub export_indexed : (w : World) (i : Indexes) (x : ℕ) (ms : List Message) → IsReached w → IsIndexed w i → importer_of w x ≡ Prepared
    → x < length w.importers → to_of w x < length w.journals →
    IsIndexed (record (journals (importer_to w x Started) (to_of w x) (JournalEntry.Started x)) { sent = ms }) i
export_indexed w i x ms r is was near ranked = noted_indexed w x Started (JournalEntry.Started x) ms near ranked (λ d o. refl) (λ y. refl) r i is
    (λ safe. (started_safe w safe x was, rw was (same_phase (exporter_of w x) Prepared Started refl refl)))
    i.dropped (entry_listed w.ranks w.orders w.exporters (importer_to w x Started).importers w.journals i.open_at i.dropped
    (importer_listed w.ranks w.orders w.exporters w.importers w.journals i.open_at i.dropped is.listed x Started (λ k. absurd (cc)))
    (journals (importer_to w x Started) (to_of w x) (JournalEntry.Started x)).journals
    (entry_drops_none w (to_of w x) (JournalEntry.Started x) ranked (λ y. refl))) is.dropped_places

pub dropped_indexed : (w : World) (i : Indexes) (x k : ℕ) → IsReached w → IsIndexed w i → importer_of w x ≡ Started → x < length w.importers
    → to_of w x < length w.journals → slice_get w.sent k ≡ Some (Cancel x) →
    x < length w.orders → IsIndexed (journals (importer_to w x Dropped) (to_of w x) (JournalEntry.Dropped x)) (record i { dropped = set i.dropped x true })
dropped_indexed w i x k r is was near ranked sent there = noted_indexed w x Dropped (JournalEntry.Dropped x) w.sent near ranked (λ d o. refl) (λ y. refl) r i is
    (λ safe. (dropped_safe w safe x was (safe.tables.cancel k x sent), rw (safe.tables.cancel k x sent) refl))
    (set i.dropped x true) (dropped_listed w i.open_at i.dropped is.listed x is.dropped_places there ranked) (length-set i.dropped x true ∙ is.dropped_places)

-- the log entry: the importer is the authority of the export's directories

pub log_started : (w : World) → Safe w → (x k : ℕ) → exporter_of w x ≡ Exporting → slice_get w.sent k ≡ Some (ExportAck x) → importer_of w x ≡ Started
log_started w safe x k e m =
    ack_started (importer_of w x) (has w (to_of w x) (JournalEntry.Dropped x)) (rw e at (safe.tables.paired x)) (safe.tables.acked k x m)
    (λ d. (safe.tables.dropped (to_of w x) x d).1)

module _ (w : World) (x k : ℕ) (was : exporter_of w x ≡ Exporting) (sent : slice_get w.sent k ≡ Some (ExportAck x))
    (ranked : from_of w x < length w.journals) where
  abbrev pub logged : World
  logged = journals (exporter_to w x Logged) (from_of w x) (JournalEntry.Exported x)

  log_owners : Safe w → (i : Indexes) → IsIndexed w i → (d : ℕ)
      → get_or (map_at (λ c old. cond (is_inside w x c) (Some (to_of w x)) old) i.owners) d None ≡ authority logged d
  log_owners safe i is d = marked i.owners (is_inside w x) (Some (to_of w x)) d
      (λ j. rw is.owner_places (inside_there w safe x (rw was refl) d j)) ∙ go (is_inside w x d) refl
    where
      started : importer_of w x ≡ Started
      started = log_started w safe x k was sent

      go : (b : Bool) → is_inside w x d ≡ b → cond b (Some (to_of w x)) (get_or i.owners d None) ≡ authority logged d
      go true j = sym (logged_inside w safe x was started d j)
      go false j = is.owners d ∙ sym (logged_outside w safe x was started d j)

  pub log_indexed : IsReached w → (i : Indexes) → IsIndexed w i
      → IsIndexed logged (record i { owners = map_at (λ c old. cond (is_inside w x c) (Some (to_of w x)) old) i.owners })
  log_indexed r i is = record {
    owners = λ d. options_by w r (get_or (map_at (λ c old. cond (is_inside w x c) (Some (to_of w x)) old) i.owners) d None)
        (authority logged d) (λ safe. log_owners safe i is d);
    opened = λ d. is.opened d ∙ sym (entry_open (exporter_to w x Logged) (from_of w x) (JournalEntry.Exported x) ranked (λ y. refl) d
        ∙ exporter_open w x Logged (rw was refl) d);
    running = is.running;
    children = is.children;
    owner_places = map_at_length (λ c old. cond (is_inside w x c) (Some (to_of w x)) old) i.owners ∙ is.owner_places;
    opened_places = is.opened_places;
    running_places = is.running_places;
    children_places = is.children_places;
    unmarked = is.unmarked;
    requests = is.requests;
    listed = entry_listed w.ranks w.orders (exporter_to w x Logged).exporters w.importers w.journals i.open_at i.dropped
        (exporter_listed w.ranks w.orders w.exporters w.importers w.journals i.open_at i.dropped is.listed x Logged (λ k. absurd (cc))) logged.journals
        (entry_drops_none w (from_of w x) (JournalEntry.Exported x) ranked (λ y. refl));
    dropped_places = is.dropped_places;
  }

-- the importer imports: the export is over

told_open : (w : World) (x : ℕ) → exporter_of w x ≡ Done → importer_of w x ≡ Started → is_over (phase_of w x) ≡ false
told_open w x e f = rw (e, f) refl

module _ (w : World) (x k : ℕ) (was : importer_of w x ≡ Started) (sent : slice_get w.sent k ≡ Some (Finish x)) (ranked : to_of w x < length w.journals) where
  abbrev pub finished : World
  finished = journals (importer_to w x Imported) (to_of w x) (JournalEntry.Imported x)

  finish_over : is_open finished x ≡ false
  finish_over = shut (is_aborted (exporter_of w x)) (has finished (to_of w x) (JournalEntry.Imported x))
      (has_adds (importer_to w x Imported) (to_of w x) (JournalEntry.Imported x) ranked (to_of w x) (JournalEntry.Imported x)
      ∙ rw (itself (to_of w x), itself x) (top (has w (to_of w x) (JournalEntry.Imported x))))
    where
      top : (b : Bool) → (b || (true && true)) ≡ true
      top b = grind arith

      shut : (a b : Bool) → b ≡ true → (not a && not b) ≡ false
      shut a b h = grind arith

  finish_others : (y : ℕ) → y ≢ x → is_open finished y ≡ is_open w y
  finish_others y n = ap (λ b. not (is_aborted (exporter_of w y)) && not b)
      (has_adds (importer_to w x Imported) (to_of w x) (JournalEntry.Imported x) ranked (to_of w y) (JournalEntry.Imported y)
      ∙ none (has w (to_of w y) (JournalEntry.Imported y)) (eqb (to_of w y) (to_of w x)) (eqb x y) (unequal n))
    where
      none : (a b c : Bool) → c ≡ false → (a || (b && c)) ≡ a
      none a b c h = grind arith

      unequal : y ≢ x → eqb x y ≡ false
      unequal m = grind arith

  pub finish_indexed : IsReached w → (i : Indexes) → IsIndexed w i
      → IsIndexed finished (record i { opened = map_at (λ c old. cond (is_inside w x c) None old) i.opened })
  finish_indexed r i is = record {
    owners = λ d. options_by w r (get_or i.owners d None) (authority finished d)
        (λ safe. is.owners d ∙ sym (finish_authority w safe x was (safe.tables.finish k x sent) d));
    opened = λ d. options_by w r (get_or (map_at (λ c old. cond (is_inside w x c) None old) i.opened) d None) (open_export finished d)
        (λ safe. shut_opened w finished safe x (told_open w x (safe.tables.finish k x sent) was) refl finish_over finish_others i.opened
        is.opened_places d (is.opened d));
    running = is.running;
    children = is.children;
    owner_places = is.owner_places;
    opened_places = map_at_length (λ c old. cond (is_inside w x c) None old) i.opened ∙ is.opened_places;
    running_places = is.running_places;
    children_places = is.children_places;
    unmarked = is.unmarked;
    requests = is.requests;
    listed = entry_listed w.ranks w.orders w.exporters (importer_to w x Imported).importers w.journals i.open_at i.dropped
        (importer_listed w.ranks w.orders w.exporters w.importers w.journals i.open_at i.dropped is.listed x Imported (λ k. absurd (cc))) finished.journals
        (entry_drops_none w (to_of w x) (JournalEntry.Imported x) ranked (λ y. refl));
    dropped_places = is.dropped_places;
  }

-- the map names the importer

module _ (w : World) (x : ℕ) (was : exporter_of w x ≡ Logged) (ranked : from_of w x < length w.journals) (ms : List Message) where
  abbrev pub notified : World
  notified = record (names_importer (journals (exporter_to w x Done) (from_of w x) (JournalEntry.Notified x)) x) { sent = ms }

  notified_owns : (r d : ℕ) → owns notified r d ≡ owns w r d
  notified_owns r d = elim (cases_eq r (from_of w x)) [
    | inl k ↦ rw k (owns_at (exporter_to w x Done) (from_of w x) (JournalEntry.Notified x) ranked d)
    | inr n ↦ owns_other (exporter_to w x Done) (from_of w x) (JournalEntry.Notified x) ranked r d n
  ]

  notified_authority : Safe w → (d : ℕ)
      → authority (names_importer (journals (exporter_to w x Done) (from_of w x) (JournalEntry.Notified x)) x) d ≡ authority w d
  notified_authority safe d =
      quiet_authority w (names_importer (journals (exporter_to w x Done) (from_of w x) (JournalEntry.Notified x)) x) safe
      (notify_safe w safe x was) refl d (λ r. notified_owns r d)
      (λ y j m. (j, forth y m, refl)) (λ y j m. (j, back y m))
    where
      near : x < length w.exporters
      near = not_past w.exporters x Aborted Logged was (λ e. cc)

      started : is_started (importer_of w x) ≡ true
      started = rw was at (safe.tables.paired x)

      told : (i : ImporterState) → is_started i ≡ true → is_moving (phase_by Done i) ≡ true
      told i h = grind arith

      forth : (y : ℕ) → is_moving (phase_of w y) ≡ true → is_moving (phase_of (exporter_to w x Done) y) ≡ true
      forth y m = elim (cases_eq y x) [
        | inl k ↦ rw (k, exporter_at w safe x Done near) (told (importer_of w x) started)
        | inr n ↦ rw (exporter_phases w safe x Done near y n) m
      ]

      back : (y : ℕ) → is_moving (phase_of (exporter_to w x Done) y) ≡ true → is_moving (phase_of w y) ≡ true
      back y m = elim (cases_eq y x) [
        | inl k ↦ rw (k, was) refl
        | inr n ↦ rw (exporter_phases w safe x Done near y n) at m
      ]

  pub notify_indexed : IsReached w → (i : Indexes) → IsIndexed w i → IsIndexed notified i
  unfolding authority
  notify_indexed r i is = same_indexed w notified i is
      (λ d. options_by w r (authority notified d) (authority w d) (λ safe. notified_authority safe d))
      (λ d. open_stays (journals (exporter_to w x Done) (from_of w x) (JournalEntry.Notified x)) notified refl (λ y. refl) d
      ∙ (entry_open (exporter_to w x Done) (from_of w x) (JournalEntry.Notified x) ranked (λ y. refl) d ∙ exporter_open w x Done (rw was refl) d))
      refl refl refl i.dropped
      (entry_listed w.ranks w.orders (exporter_to w x Done).exporters w.importers w.journals i.open_at i.dropped
      (exporter_listed w.ranks w.orders w.exporters w.importers w.journals i.open_at i.dropped is.listed x Done (λ k. absurd (cc))) notified.journals
      (entry_drops_none w (from_of w x) (JournalEntry.Notified x) ranked (λ y. refl))) is.dropped_places
