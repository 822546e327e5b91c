-- What holds of the states at exporter and importer, their journals and the messages. No world is in it.
use Rattle.std.proofs.Common.{◌≡◌, ◌≢◌, ℕ, ◌+◌, ◌<◌, Bool, true, false, ◌&&◌, ◌||◌, not, eqb, Option, Some, refl, sym, ap, ◌∙◌, inl, inr, ◌⊎◌, arith}
use Rattle.std.proofs.lemmas.Bool.{cases_eq}
use Rattle.export_protocol.specs.declared.exporter.ExporterState.{ExporterState}
use Rattle.export_protocol.specs.declared.importer.ImporterState.{ImporterState}
use Rattle.export_protocol.specs.declared.journal.JournalEntry.{JournalEntry}
use Rattle.export_protocol.specs.declared.message.Message.{Message}
use Rattle.export_protocol.specs.declared.exporter.ExporterState.TheVariants.{Discovering, Freezing, Preparing, Exporting, Logged, Done, Aborted}
use Rattle.export_protocol.specs.declared.importer.ImporterState.TheVariants.{Unknown, Prepared, Started, Imported, Dropped}
use Rattle.export_protocol.specs.declared.message.Message.TheVariants.{Discover, ExportAck, Finish, Cancel}
use Rattle.export_protocol.specs.Authority.{is_same}
use Rattle.export_protocol.specs.Step.{about, is_started, is_before_log}

abbrev pub is_committed : ExporterState → Bool
is_committed Logged = true
is_committed Done = true
is_committed _ = false

abbrev pub is_done : ExporterState → Bool
is_done Done = true
is_done _ = false

abbrev pub is_imported : ImporterState → Bool
is_imported Imported = true
is_imported _ = false

abbrev pub is_dropped : ImporterState → Bool
is_dropped Dropped = true
is_dropped _ = false

-- which states of an exporter and its importer occur together
abbrev pub together : ExporterState → ImporterState → Bool
together Logged i = is_started i
together Done i = is_started i || is_imported i
together Aborted i = not (is_imported i)
together Discovering i = not (is_imported i) && not (is_dropped i)
together Freezing i = not (is_imported i) && not (is_dropped i)
together Preparing i = not (is_imported i) && not (is_dropped i)
together Exporting i = not (is_imported i) && not (is_dropped i)

-- before the log entry
pub early_pair : (e : ExporterState) (i : ImporterState) → is_before_log e ≡ true → together e i ≡ (not (is_imported i) && not (is_dropped i))
early_pair e i h = grind arith

pub early_committed : (e : ExporterState) → is_before_log e ≡ true → is_committed e ≡ false
early_committed e h = grind arith

pub early_done : (e : ExporterState) → is_before_log e ≡ true → is_done e ≡ false
early_done e h = grind arith

pub early_not_done : (e : ExporterState) → is_before_log e ≡ true → e ≡ Done → ⊥
early_not_done e h k = grind arith

pub early_not_aborted : (e : ExporterState) → is_before_log e ≡ true → e ≡ Aborted → ⊥
early_not_aborted e h k = grind arith

-- flags after an entry, at the export that it names and at another

pub kept_flag : (h b : Bool) → (h || (b && false)) ≡ h
kept_flag h b = grind arith

pub set_flag : (h b : Bool) (x : ℕ) → h ≡ (b && false) → (h || (b && eqb x x)) ≡ (b && true)
set_flag h b x e = grind arith

pub other_flag : (h b : Bool) (x y : ℕ) → y ≢ x → (h || (b && eqb x y)) ≡ h
other_flag h b x y n = grind arith

pub imported_flags : (s i d b : Bool) (x : ℕ) → (s && not i && not d) ≡ (b && true) →
    ((s || (b && false)) && not (i || (b && eqb x x)) && not (d || (b && false))) ≡ (b && false)
imported_flags s i d b x e = grind arith

pub dropped_flags : (s i d b : Bool) (x : ℕ) → (s && not i && not d) ≡ (b && true) →
    ((s || (b && false)) && not (i || (b && false)) && not (d || (b && eqb x x))) ≡ (b && false)
dropped_flags s i d b x e = grind arith

pub not_dropped : (i : ImporterState) → is_dropped i ≡ false → i ≡ Dropped → ⊥
not_dropped i h e = grind arith

pub drop_flag : (h : Bool) (r t x : ℕ) → (h || (eqb r t && eqb x x)) ≡ true → (h ≡ true → r ≡ t) → r ≡ t
drop_flag h r t x e k = grind arith

pub started_pair : (e : ExporterState) → together e Prepared ≡ true → together e Started ≡ true
started_pair e h = grind arith

pub record Tables (count : ℕ) (from to : ℕ → ℕ) (exporter : ℕ → ExporterState) (importer : ℕ → ImporterState)
    (has : ℕ → JournalEntry → Bool) (sent : ℕ → Option Message) : Type 0 where
  pub paired : (x : ℕ) → together (exporter x) (importer x) ≡ true
  pub exported : (r x : ℕ) → has r (JournalEntry.Exported x) ≡ (eqb r (from x) && is_committed (exporter x))
  pub notified : (r x : ℕ) → has r (JournalEntry.Notified x) ≡ (eqb r (from x) && is_done (exporter x))
  pub imported : (r x : ℕ) → has r (JournalEntry.Imported x) ≡ (eqb r (to x) && is_imported (importer x))
  pub importing : (r x : ℕ) → (has r (JournalEntry.Started x) && not (has r (JournalEntry.Imported x))
      && not (has r (JournalEntry.Dropped x))) ≡ (eqb r (to x) && is_started (importer x))
  pub dropped : (r x : ℕ) → has r (JournalEntry.Dropped x) ≡ true → (r ≡ to x) × (importer x ≡ Dropped)
  pub known : (k : ℕ) (m : Message) → sent k ≡ Some m → about m < count
  pub finish : (k x : ℕ) → sent k ≡ Some (Finish x) → exporter x ≡ Done
  pub cancel : (k x : ℕ) → sent k ≡ Some (Cancel x) → exporter x ≡ Aborted
  pub acked : (k x : ℕ) → sent k ≡ Some (ExportAck x) → (is_started (importer x) || is_imported (importer x) || has (to x) (JournalEntry.Dropped x)) ≡ true

-- messages that promise nothing
abbrev pub is_plain : Message → Bool
is_plain (Finish x) = false
is_plain (Cancel x) = false
is_plain (ExportAck x) = false
is_plain _ = true

module _ (count : ℕ) (from to : ℕ → ℕ) (exporter : ℕ → ExporterState) (importer : ℕ → ImporterState)
    (has : ℕ → JournalEntry → Bool) (sent : ℕ → Option Message) (old : Tables count from to exporter importer has sent) where
  -- one more message
  pub sent_plain : (sent' : ℕ → Option Message) (new : Message) → ((k : ℕ) (m : Message) → sent' k ≡ Some m → (sent k ≡ Some m) ⊎ (m ≡ new)) →
      is_plain new ≡ true → about new < count → Tables count from to exporter importer has sent'
  sent_plain sent' new news plain near = record {
    paired = old.paired;
    exported = old.exported;
    notified = old.notified;
    imported = old.imported;
    importing = old.importing;
    dropped = old.dropped;
    known = λ k m h. grind (arith, old.known, news k m h);
    finish = λ k x h. grind (arith, old.finish, news k (Finish x) h);
    cancel = λ k x h. grind (arith, old.cancel, news k (Cancel x) h);
    acked = λ k x h. grind (arith, old.acked, news k (ExportAck x) h);
  }

  pub sent_finish : (sent' : ℕ → Option Message) (x : ℕ) → ((k : ℕ) (m : Message) → sent' k ≡ Some m → (sent k ≡ Some m) ⊎ (m ≡ Finish x)) →
      exporter x ≡ Done → x < count → Tables count from to exporter importer has sent'
  sent_finish sent' x news done near = record {
    paired = old.paired;
    exported = old.exported;
    notified = old.notified;
    imported = old.imported;
    importing = old.importing;
    dropped = old.dropped;
    known = λ k m h. grind (arith, old.known, news k m h);
    finish = λ k y h. grind (arith, old.finish, news k (Finish y) h);
    cancel = λ k y h. grind (arith, old.cancel, news k (Cancel y) h);
    acked = λ k y h. grind (arith, old.acked, news k (ExportAck y) h);
  }

  pub sent_cancel : (sent' : ℕ → Option Message) (x : ℕ) → ((k : ℕ) (m : Message) → sent' k ≡ Some m → (sent k ≡ Some m) ⊎ (m ≡ Cancel x)) →
      exporter x ≡ Aborted → x < count → Tables count from to exporter importer has sent'
  sent_cancel sent' x news aborted near = record {
    paired = old.paired;
    exported = old.exported;
    notified = old.notified;
    imported = old.imported;
    importing = old.importing;
    dropped = old.dropped;
    known = λ k m h. grind (arith, old.known, news k m h);
    finish = λ k y h. grind (arith, old.finish, news k (Finish y) h);
    cancel = λ k y h. grind (arith, old.cancel, news k (Cancel y) h);
    acked = λ k y h. grind (arith, old.acked, news k (ExportAck y) h);
  }

  pub sent_ack : (sent' : ℕ → Option Message) (x : ℕ) → ((k : ℕ) (m : Message) → sent' k ≡ Some m → (sent k ≡ Some m) ⊎ (m ≡ ExportAck x)) →
      importer x ≡ Started → x < count → Tables count from to exporter importer has sent'
  sent_ack sent' x news started near = record {
    paired = old.paired;
    exported = old.exported;
    notified = old.notified;
    imported = old.imported;
    importing = old.importing;
    dropped = old.dropped;
    known = λ k m h. grind (arith, old.known, news k m h);
    finish = λ k y h. grind (arith, old.finish, news k (Finish y) h);
    cancel = λ k y h. grind (arith, old.cancel, news k (Cancel y) h);
    acked = λ k y h. grind (arith, old.acked, news k (ExportAck y) h);
  }

  -- an entry only on directories
  pub entry_tables : (has' : ℕ → JournalEntry → Bool) →
      ((r x : ℕ) → has' r (JournalEntry.Exported x) ≡ has r (JournalEntry.Exported x))
      → ((r x : ℕ) → has' r (JournalEntry.Notified x) ≡ has r (JournalEntry.Notified x)) →
      ((r x : ℕ) → has' r (JournalEntry.Imported x) ≡ has r (JournalEntry.Imported x))
      → ((r x : ℕ) → has' r (JournalEntry.Started x) ≡ has r (JournalEntry.Started x)) →
      ((r x : ℕ) → has' r (JournalEntry.Dropped x) ≡ has r (JournalEntry.Dropped x)) → Tables count from to exporter importer has' sent
  entry_tables has' e n i s d = record {
    paired = old.paired;
    exported = λ r x. grind (arith, old.exported);
    notified = λ r x. grind (arith, old.notified);
    imported = λ r x. grind (arith, old.imported);
    importing = λ r x. grind (arith, old.importing r x, e r x, n r x, i r x, s r x, d r x);
    dropped = λ r x h. grind (arith, old.dropped);
    known = old.known;
    finish = old.finish;
    cancel = old.cancel;
    acked = λ k x h. grind (arith, old.acked);
  }

  -- The exporter's state of x changes.
  module _ (exporter' : ℕ → ExporterState) (x : ℕ) (others : (y : ℕ) → y ≢ x → exporter' y ≡ exporter y) where
    change_exporter : together (exporter' x) (importer x) ≡ true → is_committed (exporter' x) ≡ is_committed (exporter x) →
        is_done (exporter' x) ≡ is_done (exporter x) → (exporter x ≡ Done → exporter' x ≡ Done) → (exporter x ≡ Aborted → exporter' x ≡ Aborted) →
        Tables count from to exporter' importer has sent
    change_exporter pair commits dones done aborted = record {
      paired = λ y. elim (cases_eq y x) [ inl e ↦ rw e pair | inr n ↦ rw (others y n) (old.paired y) ];
      exported = λ r y. elim (cases_eq y x) [ inl e ↦ rw (e, commits) (old.exported r x) | inr n ↦ rw (others y n) (old.exported r y) ];
      notified = λ r y. elim (cases_eq y x) [ inl e ↦ rw (e, dones) (old.notified r x) | inr n ↦ rw (others y n) (old.notified r y) ];
      imported = old.imported;
      importing = old.importing;
      dropped = old.dropped;
      known = old.known;
      finish = λ k y h. elim (cases_eq y x) [ inl e ↦ rw e (done (rw e at (old.finish k y h))) | inr n ↦ rw (others y n) (old.finish k y h) ];
      cancel = λ k y h. elim (cases_eq y x) [ inl e ↦ rw e (aborted (rw e at (old.cancel k y h))) | inr n ↦ rw (others y n) (old.cancel k y h) ];
      acked = old.acked;
    }

    pub early_tables : is_before_log (exporter x) ≡ true → is_before_log (exporter' x) ≡ true → Tables count from to exporter' importer has sent
    early_tables was is = change_exporter
        (early_pair (exporter' x) (importer x) is ∙ (sym (early_pair (exporter x) (importer x) was) ∙ old.paired x))
        (early_committed (exporter' x) is ∙ sym (early_committed (exporter x) was))
        (early_done (exporter' x) is ∙ sym (early_done (exporter x) was))
        (λ e. absurd (early_not_done (exporter x) was e))
        (λ e. absurd (early_not_aborted (exporter x) was e))

    pub abort_tables : is_before_log (exporter x) ≡ true → exporter' x ≡ Aborted → Tables count from to exporter' importer has sent
    abort_tables was is = change_exporter
        (rw is (grind (arith, early_pair (exporter x) (importer x) was, old.paired x)))
        (rw is (sym (early_committed (exporter x) was)))
        (rw is (sym (early_done (exporter x) was)))
        (λ e. absurd (early_not_done (exporter x) was e))
        (λ e. is)

  -- The exporter logs x, which the importer started.
  pub log_tables : (exporter' : ℕ → ExporterState) (has' : ℕ → JournalEntry → Bool) (x : ℕ) → ((y : ℕ) → y ≢ x → exporter' y ≡ exporter y) →
      ((r : ℕ) (e : JournalEntry) → has' r e ≡ (has r e || (eqb r (from x) && is_same (JournalEntry.Exported x) e))) →
      exporter x ≡ Exporting → importer x ≡ Started → exporter' x ≡ Logged → Tables count from to exporter' importer has' sent
  log_tables exporter' has' x others adds was started is = record {
    paired = λ y. elim (cases_eq y x) [ inl e ↦ rw (e, is, started) refl | inr n ↦ rw (others y n) (old.paired y) ];
    exported = λ r y. grind (arith, old.exported r y, adds r (JournalEntry.Exported y), cases_eq y x, others y);
    notified = λ r y. grind (arith, old.notified r y, adds r (JournalEntry.Notified y), cases_eq y x, others y);
    imported = λ r y. rw (adds r (JournalEntry.Imported y), kept_flag (has r (JournalEntry.Imported y)) (eqb r (from x))) (old.imported r y);
    importing = λ r y. rw (
      adds r (JournalEntry.Started y),
      adds r (JournalEntry.Imported y),
      adds r (JournalEntry.Dropped y),
      kept_flag (has r (JournalEntry.Started y)) (eqb r (from x)),
      kept_flag (has r (JournalEntry.Imported y)) (eqb r (from x)),
      kept_flag (has r (JournalEntry.Dropped y)) (eqb r (from x)),
    ) (old.importing r y);
    dropped = λ r y h. old.dropped r y (rw (adds r (JournalEntry.Dropped y), kept_flag (has r (JournalEntry.Dropped y)) (eqb r (from x))) at h);
    known = old.known;
    finish = λ k y h. grind (arith, old.finish k y h, cases_eq y x, others y);
    cancel = λ k y h. grind (arith, old.cancel k y h, cases_eq y x, others y);
    acked = λ k y h. grind (arith, old.acked k y h, adds (to y) (JournalEntry.Dropped y));
  }

  -- The exporter notifies.
  pub notify_tables : (exporter' : ℕ → ExporterState) (has' : ℕ → JournalEntry → Bool) (x : ℕ) → ((y : ℕ) → y ≢ x → exporter' y ≡ exporter y) →
      ((r : ℕ) (e : JournalEntry) → has' r e ≡ (has r e || (eqb r (from x) && is_same (JournalEntry.Notified x) e))) →
      exporter x ≡ Logged → exporter' x ≡ Done → Tables count from to exporter' importer has' sent
  notify_tables exporter' has' x others adds was is = record {
    paired = λ y. elim (cases_eq y x) [
      | inl e ↦ rw (e, is) (let h : is_started (importer x) ≡ true = rw was at (old.paired x) in rw h refl)
      | inr n
          ↦ rw (others y n) (old.paired y)
    ];
    exported = λ r y. grind (arith, old.exported r y, adds r (JournalEntry.Exported y), cases_eq y x, others y);
    notified = λ r y. grind (arith, old.notified r y, adds r (JournalEntry.Notified y), cases_eq y x, others y);
    imported = λ r y. rw (adds r (JournalEntry.Imported y), kept_flag (has r (JournalEntry.Imported y)) (eqb r (from x))) (old.imported r y);
    importing = λ r y. rw (
      adds r (JournalEntry.Started y),
      adds r (JournalEntry.Imported y),
      adds r (JournalEntry.Dropped y),
      kept_flag (has r (JournalEntry.Started y)) (eqb r (from x)),
      kept_flag (has r (JournalEntry.Imported y)) (eqb r (from x)),
      kept_flag (has r (JournalEntry.Dropped y)) (eqb r (from x)),
    ) (old.importing r y);
    dropped = λ r y h. old.dropped r y (rw (adds r (JournalEntry.Dropped y), kept_flag (has r (JournalEntry.Dropped y)) (eqb r (from x))) at h);
    known = old.known;
    finish = λ k y h. grind (arith, old.finish k y h, cases_eq y x, others y);
    cancel = λ k y h. grind (arith, old.cancel k y h, cases_eq y x, others y);
    acked = λ k y h. grind (arith, old.acked k y h, adds (to y) (JournalEntry.Dropped y));
  }

  -- The importer's state of x changes, before it starts.
  pub import_early_tables : (importer' : ℕ → ImporterState) (x : ℕ) → ((y : ℕ) → y ≢ x → importer' y ≡ importer y) →
      together (exporter x) (importer' x) ≡ true → is_imported (importer x) ≡ false → is_imported (importer' x) ≡ false →
      is_started (importer x) ≡ false → is_started (importer' x) ≡ false → (importer x ≡ Dropped → importer' x ≡ Dropped) →
      Tables count from to exporter importer' has sent
  import_early_tables importer' x others pair imp imp' sta sta' drop = record {
    paired = λ y. elim (cases_eq y x) [ inl e ↦ rw e pair | inr n ↦ rw (others y n) (old.paired y) ];
    exported = old.exported;
    notified = old.notified;
    imported = λ r y. elim (cases_eq y x) [ inl e ↦ rw (e, imp') (rw imp at (old.imported r x)) | inr n ↦ rw (others y n) (old.imported r y) ];
    importing = λ r y. elim (cases_eq y x) [ inl e ↦ rw (e, sta') (rw sta at (old.importing r x)) | inr n ↦ rw (others y n) (old.importing r y) ];
    dropped = λ r y h. elim (cases_eq y x) [
      | inl e ↦ rw e ((rw e at (old.dropped r y h)).0, drop (rw e at (old.dropped r y h)).1)
      | inr n
          ↦ rw (others y n) (old.dropped r y h)
    ];
    known = old.known;
    finish = old.finish;
    cancel = old.cancel;
    acked = λ k y h. elim (cases_eq y x) [ inl e ↦ rw (e, imp', sta') (rw (e, imp, sta) at (old.acked k y h)) | inr n ↦ rw (others y n) (old.acked k y h) ];
  }

  -- The importer starts.
  pub started_tables : (importer' : ℕ → ImporterState) (has' : ℕ → JournalEntry → Bool) (x : ℕ) → ((y : ℕ) → y ≢ x → importer' y ≡ importer y) →
      ((r : ℕ) (e : JournalEntry) → has' r e ≡ (has r e || (eqb r (to x) && is_same (JournalEntry.Started x) e))) →
      importer x ≡ Prepared → importer' x ≡ Started → Tables count from to exporter importer' has' sent
  started_tables importer' has' x others adds was is = record {
    paired = λ y. elim (cases_eq y x) [ inl e ↦ rw (e, is) (started_pair (exporter x) (rw was at (old.paired x))) | inr n ↦ rw (others y n) (old.paired y) ];
    exported = λ r y. rw (adds r (JournalEntry.Exported y), kept_flag (has r (JournalEntry.Exported y)) (eqb r (to x))) (old.exported r y);
    notified = λ r y. rw (adds r (JournalEntry.Notified y), kept_flag (has r (JournalEntry.Notified y)) (eqb r (to x))) (old.notified r y);
    imported = λ r y. grind (arith, old.imported r y, adds r (JournalEntry.Imported y), cases_eq y x, others y);
    importing = λ r y. grind (
      arith,
      old.importing r y,
      old.imported r y,
      old.dropped r y,
      adds r (JournalEntry.Started y),
      adds r (JournalEntry.Imported y),
      adds r (JournalEntry.Dropped y),
      cases_eq y x,
      others y,
    );
    dropped = λ r y h.
        let k : has r (JournalEntry.Dropped y) ≡ true = rw (adds r (JournalEntry.Dropped y), kept_flag (has r (JournalEntry.Dropped y)) (eqb r (to x))) at h in
        let o : (r ≡ to y) × (importer y ≡ Dropped) = old.dropped r y k in
        elim (cases_eq y x) [ inl e ↦ absurd (not_dropped (importer x) (ap is_dropped was) (rw e at o.1)) | inr n ↦ (o.0, others y n ∙ o.1) ];
    known = old.known;
    finish = old.finish;
    cancel = old.cancel;
    acked = λ k y h. grind (arith, old.acked k y h, adds (to y) (JournalEntry.Dropped y), cases_eq y x, others y);
  }

  -- The importer imports.
  pub imported_tables : (importer' : ℕ → ImporterState) (has' : ℕ → JournalEntry → Bool) (x : ℕ) → ((y : ℕ) → y ≢ x → importer' y ≡ importer y) →
      ((r : ℕ) (e : JournalEntry) → has' r e ≡ (has r e || (eqb r (to x) && is_same (JournalEntry.Imported x) e))) →
      importer x ≡ Started → exporter x ≡ Done → importer' x ≡ Imported → Tables count from to exporter importer' has' sent
  imported_tables importer' has' x others adds was done is = record {
    paired = λ y. elim (cases_eq y x) [ inl e ↦ rw (e, is, done) refl | inr n ↦ rw (others y n) (old.paired y) ];
    exported = λ r y. rw (adds r (JournalEntry.Exported y), kept_flag (has r (JournalEntry.Exported y)) (eqb r (to x))) (old.exported r y);
    notified = λ r y. rw (adds r (JournalEntry.Notified y), kept_flag (has r (JournalEntry.Notified y)) (eqb r (to x))) (old.notified r y);
    imported = λ r y. elim (cases_eq y x) [
      | inl e ↦ rw (e, is, adds r (JournalEntry.Imported x)) (set_flag (has r (JournalEntry.Imported x)) (eqb r (to x)) x (rw was at (old.imported r x)))
      | inr n ↦ rw (others y n, adds r (JournalEntry.Imported y), other_flag (has r (JournalEntry.Imported y)) (eqb r (to x)) x y n) (old.imported r y)
    ];
    importing = λ r y. elim (cases_eq y x) [
      | inl e ↦ rw (e, is, adds r (JournalEntry.Started x), adds r (JournalEntry.Imported x), adds r (JournalEntry.Dropped x))
          (imported_flags (has r (JournalEntry.Started x)) (has r (JournalEntry.Imported x)) (has r (JournalEntry.Dropped x)) (eqb r (to x))
          x (rw was at (old.importing r x)))
      | inr n ↦ rw (
        others y n,
        adds r (JournalEntry.Started y),
        adds r (JournalEntry.Imported y),
        adds r (JournalEntry.Dropped y),
        kept_flag (has r (JournalEntry.Started y)) (eqb r (to x)),
        other_flag (has r (JournalEntry.Imported y)) (eqb r (to x)) x y n,
        kept_flag (has r (JournalEntry.Dropped y)) (eqb r (to x)),
      ) (old.importing r y)
    ];
    dropped = λ r y h.
        let k : has r (JournalEntry.Dropped y) ≡ true = rw (adds r (JournalEntry.Dropped y), kept_flag (has r (JournalEntry.Dropped y)) (eqb r (to x))) at h in
        let o : (r ≡ to y) × (importer y ≡ Dropped) = old.dropped r y k in
        elim (cases_eq y x) [ inl e ↦ absurd (not_dropped (importer x) (ap is_dropped was) (rw e at o.1)) | inr n ↦ (o.0, others y n ∙ o.1) ];
    known = old.known;
    finish = old.finish;
    cancel = old.cancel;
    acked = λ k y h. grind (arith, old.acked k y h, adds (to y) (JournalEntry.Dropped y), cases_eq y x, others y);
  }

  -- The importer drops what it had started.
  pub dropped_tables : (importer' : ℕ → ImporterState) (has' : ℕ → JournalEntry → Bool) (x : ℕ) → ((y : ℕ) → y ≢ x → importer' y ≡ importer y) →
      ((r : ℕ) (e : JournalEntry) → has' r e ≡ (has r e || (eqb r (to x) && is_same (JournalEntry.Dropped x) e))) →
      importer x ≡ Started → exporter x ≡ Aborted → importer' x ≡ Dropped → Tables count from to exporter importer' has' sent
  dropped_tables importer' has' x others adds was aborted is = record {
    paired = λ y. elim (cases_eq y x) [ inl e ↦ rw (e, is, aborted) refl | inr n ↦ rw (others y n) (old.paired y) ];
    exported = λ r y. rw (adds r (JournalEntry.Exported y), kept_flag (has r (JournalEntry.Exported y)) (eqb r (to x))) (old.exported r y);
    notified = λ r y. rw (adds r (JournalEntry.Notified y), kept_flag (has r (JournalEntry.Notified y)) (eqb r (to x))) (old.notified r y);
    imported = λ r y. grind (arith, old.imported r y, adds r (JournalEntry.Imported y), cases_eq y x, others y);
    importing = λ r y. elim (cases_eq y x) [
      | inl e ↦ rw (e, is, adds r (JournalEntry.Started x), adds r (JournalEntry.Imported x), adds r (JournalEntry.Dropped x))
          (dropped_flags (has r (JournalEntry.Started x)) (has r (JournalEntry.Imported x)) (has r (JournalEntry.Dropped x)) (eqb r (to x))
          x (rw was at (old.importing r x)))
      | inr n ↦ rw (
        others y n,
        adds r (JournalEntry.Started y),
        adds r (JournalEntry.Imported y),
        adds r (JournalEntry.Dropped y),
        kept_flag (has r (JournalEntry.Started y)) (eqb r (to x)),
        kept_flag (has r (JournalEntry.Imported y)) (eqb r (to x)),
        other_flag (has r (JournalEntry.Dropped y)) (eqb r (to x)) x y n,
      ) (old.importing r y)
    ];
    dropped = λ r y h. elim (cases_eq y x) [
      | inl e ↦ rw e (drop_flag (has r (JournalEntry.Dropped x)) r (to x) x (rw (e, adds r (JournalEntry.Dropped x)) at h) (λ k. (old.dropped r x k).0), is)
      | inr n ↦ rw (others y n) (old.dropped r y (rw (adds r (JournalEntry.Dropped y), other_flag (has r (JournalEntry.Dropped y)) (eqb r (to x)) x y n) at h))
    ];
    known = old.known;
    finish = old.finish;
    cancel = old.cancel;
    acked = λ k y h. grind (arith, old.acked k y h, adds (to y) (JournalEntry.Dropped y), cases_eq y x, others y);
  }

  -- An export begins.
  pub begun_tables : (from' to' : ℕ → ℕ) (exporter' : ℕ → ExporterState) (importer' : ℕ → ImporterState) (sent' : ℕ → Option Message) →
      ((y : ℕ) → y ≢ count → from' y ≡ from y) → ((y : ℕ) → y ≢ count → to' y ≡ to y) →
      ((y : ℕ) → y ≢ count → exporter' y ≡ exporter y) → ((y : ℕ) → importer' y ≡ importer y) →
      ((k : ℕ) (m : Message) → sent' k ≡ Some m → (sent k ≡ Some m) ⊎ (m ≡ Discover count)) →
      exporter count ≡ Aborted → importer count ≡ Unknown → exporter' count ≡ Discovering →
      Tables (count + 1) from' to' exporter' importer' has sent'
  begun_tables from' to' exporter' importer' sent' froms tos others importers news was new is = record {
    paired = λ y. elim (cases_eq y count) [ inl e ↦ rw (e, is, importers count, new) refl | inr n ↦ rw (others y n, importers y) (old.paired y) ];
    exported = λ r y. grind (arith, old.exported r y, cases_eq y count, others y, froms y);
    notified = λ r y. grind (arith, old.notified r y, cases_eq y count, others y, froms y);
    imported = λ r y. grind (arith, old.imported r y, cases_eq y count, importers y, tos y);
    importing = λ r y. grind (arith, old.importing r y, cases_eq y count, importers y, tos y);
    dropped = λ r y h. grind (arith, old.dropped r y h, cases_eq y count, importers y, tos y);
    known = λ k m h. grind (arith, old.known k m, news k m h);
    finish = λ k y h. grind (arith, old.finish k y, old.known k (Finish y), news k (Finish y) h, others y);
    cancel = λ k y h. grind (arith, old.cancel k y, old.known k (Cancel y), news k (Cancel y) h, others y);
    acked = λ k y h. grind (arith, old.acked k y, old.known k (ExportAck y), news k (ExportAck y) h, importers y, tos y);
  }

  -- Exports that aren't logged are aborted.
  pub halted_exporters : (exporter' : ℕ → ExporterState) →
      ((y : ℕ) → (exporter' y ≡ exporter y) ⊎ ((is_before_log (exporter y) ≡ true) × (exporter' y ≡ Aborted))) →
      Tables count from to exporter' importer has sent
  halted_exporters exporter' states = record {
    paired = λ y. elim (states y) [
      | inl e ↦ rw e (old.paired y)
      | inr p ↦ rw p.1 (not_imported (is_imported (importer y)) (is_dropped (importer y)) (sym (early_pair (exporter y) (importer y) p.0) ∙ old.paired y))
    ];
    exported = λ r y. elim (states y) [ inl e ↦ rw e (old.exported r y) | inr p ↦ rw p.1 (rw (early_committed (exporter y) p.0) at (old.exported r y)) ];
    notified = λ r y. elim (states y) [ inl e ↦ rw e (old.notified r y) | inr p ↦ rw p.1 (rw (early_done (exporter y) p.0) at (old.notified r y)) ];
    imported = old.imported;
    importing = old.importing;
    dropped = old.dropped;
    known = old.known;
    finish = λ k y h. elim (states y) [ inl e ↦ e ∙ old.finish k y h | inr p ↦ absurd (early_not_done (exporter y) p.0 (old.finish k y h)) ];
    cancel = λ k y h. elim (states y) [ inl e ↦ e ∙ old.cancel k y h | inr p ↦ p.1 ];
    acked = old.acked;
  }
    where
      not_imported : (a b : Bool) → (not a && not b) ≡ true → not a ≡ true
      not_imported a b h = grind arith

  -- Imports whose state no entry gives are forgotten.
  pub halted_importers : (importer' : ℕ → ImporterState) →
      ((y : ℕ) → (importer' y ≡ importer y) ⊎
      ((importer' y ≡ Unknown) × (is_started (importer y) ≡ false) × (is_imported (importer y) ≡ false)
      × (importer y ≡ Dropped → has (to y) (JournalEntry.Dropped y) ≡ false))) →
      Tables count from to exporter importer' has sent
  halted_importers importer' states = record {
    paired = λ y. elim (states y) [ inl e ↦ rw e (old.paired y) | inr p ↦ rw p.0 (unknown_pair (exporter y) (importer y) p.1 p.2 (old.paired y)) ];
    exported = old.exported;
    notified = old.notified;
    imported = λ r y. elim (states y) [ inl e ↦ rw e (old.imported r y) | inr p ↦ rw p.0 (rw p.2 at (old.imported r y)) ];
    importing = λ r y. elim (states y) [ inl e ↦ rw e (old.importing r y) | inr p ↦ rw p.0 (rw p.1 at (old.importing r y)) ];
    dropped = λ r y h. elim (states y) [
      | inl e ↦ ((old.dropped r y h).0, e ∙ (old.dropped r y h).1)
      | inr p ↦ absurd (cc (p.3 (old.dropped r y h).1, h, (old.dropped r y h).0))
    ];
    known = old.known;
    finish = old.finish;
    cancel = old.cancel;
    acked = λ k y h. elim (states y) [
      | inl e ↦ rw e (old.acked k y h)
      | inr p ↦ (let b : has (to y) (JournalEntry.Dropped y)
          ≡ true = only (is_started (importer y)) (is_imported (importer y)) (has (to y) (JournalEntry.Dropped y)) p.1 p.2
          (old.acked k y h) in
          absurd (cc (p.3 (old.dropped (to y) y b).1, b)))
    ];
  }
    where
      only : (a b c : Bool) → a ≡ false → b ≡ false → (a || b || c) ≡ true → c ≡ true
      only a b c i j k = grind arith

      unknown_pair : (e : ExporterState) (i : ImporterState) → is_started i ≡ false → is_imported i ≡ false → together e i ≡ true → together e Unknown ≡ true
      unknown_pair e i h k l = grind arith
