-- Between a stop and a restart nothing changes what a rank knows.
use Rattle.std.proofs.Common.{◌≡◌, ◌≢◌, ℕ, Bool, true, false, ◌||◌, eqb, cond, List, [], ◌∷◌, ◌++◌, length}
use Rattle.std.proofs.Common.{get_or, set, Option, Some, None, refl, sym, ap, ◌∙◌, subst, inl, inr, arith}
use Rattle.std.specs.List.{slice_get}
use Rattle.std.proofs.lemmas.Bool.{cases_eq, cases_lt, eqb-true}
use Rattle.std.proofs.lemmas.List.{get_or-set_other}
use Rattle.std.proofs.Math.Logic.{∥∥₁_elim}
use Rattle.export_protocol.specs.declared.exporter.ExporterState.{ExporterState}
use Rattle.export_protocol.specs.declared.importer.ImporterState.{ImporterState}
use Rattle.export_protocol.specs.declared.journal.JournalEntry.{JournalEntry}
use Rattle.export_protocol.specs.declared.message.Message.{Message}
use Rattle.export_protocol.specs.declared.step_error.StepError.{StepError}
use Rattle.export_protocol.specs.declared.exporter.ExporterState.TheVariants.{Discovering, Freezing, Preparing, Exporting, Logged, Done, Aborted}
use Rattle.export_protocol.specs.declared.importer.ImporterState.TheVariants.{Unknown, Discovered, Prepared, Started, Imported, Dropped}
use Rattle.export_protocol.specs.declared.message.Message.TheVariants.{Discover, DiscoverAck, Prep, PrepAck, ExportAck, Finish, Cancel, Query}
use Rattle.export_protocol.specs.Cluster.{World}
use Rattle.mds_types.specs.declared.order.Order.{Order}
use Rattle.export_protocol.specs.Authority.{order_in, no_order, from_of, to_of, exporter_of, importer_of, journal_of, has, has_entry, authority, is_stopped}
use Rattle.export_protocol.specs.declared.moves.Transition.{Transition}
use Rattle.export_protocol.specs.Step.{step, answered, refusal, causes, happens, counted, receiver, run}
use Rattle.export_protocol.specs.Step.{start, journaled_by, changed, ignored, stops, restarts, comes, delivered}
use Rattle.export_protocol.specs.Step.{exporter_by_journal, importer_by_journal, authority_stopped, move, acts, about}
use Rattle.export_protocol.specs.declared.event.Event.{Event}
use Rattle.export_protocol.specs.Entries.{exporter_at_stop, importer_at_stop}
use Rattle.export_protocol.specs.declared.event.Event.TheVariants.{Begin, End, Start, Deliver, Froze, Notify, Abort, Stop, Restart, Ask}
use Rattle.export_protocol.specs.View.{IsReached}
use Rattle.export_protocol.specs.Entries.{Entry, IsRecovered, entry, entered, entered_by, accepted_entry, delivered_entry, comes_entry, move_entry, noted}
use Rattle.export_protocol.proofs.Views.{push_same, push_other, map_at_get, map_at_past}
use Rattle.export_protocol.proofs.Events.{not_refused}
use Rattle.export_protocol.proofs.Theorem.{not_refused_causes}
use Rattle.export_protocol.proofs.Reached.{reached_step, started}
use Rattle.export_protocol.proofs.Stops.{exporter_journaled, importer_journaled}
use Rattle.export_protocol.proofs.Reached.{exporters_by, importers_by, same_exporter, same_importer}
use Rattle.export_protocol.proofs.Accepted.{numbers_by}
use Rattle.export_protocol.proofs.Halting.{same_here}
use Rattle.export_protocol.proofs.Marks.{unchanged}
use Rattle.export_protocol.proofs.Noted.{adds, entered_has}
use Rattle.export_protocol.proofs.Entries.{is_recorded}
use Rattle.export_protocol.proofs.Tidy.{set_false}

-- the states of a stopped rank are such as a stop leaves
pub record Rested (w : World) : Type 0 where
  pub exports : (x : ℕ) → is_stopped w (from_of w x) ≡ true → exporter_at_stop (exporter_of w x) ≡ exporter_of w x
  pub imports : (x : ℕ) → is_stopped w (to_of w x) ≡ true → importer_at_stop (has w (to_of w x) (JournalEntry.Dropped x)) (importer_of w x) ≡ importer_of w x

told_exporter : (n e : Bool) → exporter_at_stop (cond n Done (cond e Logged Aborted)) ≡ cond n Done (cond e Logged Aborted)
told_exporter n e = grind arith

told_importer : (m d s : Bool) → importer_at_stop d (cond m Imported (cond d Dropped (cond s Started Unknown)))
    ≡ cond m Imported (cond d Dropped (cond s Started Unknown))
told_importer m d s = grind arith

unknown_rests : (b : Bool) → importer_at_stop b Unknown ≡ Unknown
unknown_rests b = grind arith

-- a rank that runs isn't one that is stopped
differs : (w : World) (r s : ℕ) → is_stopped w r ≡ false → is_stopped w s ≡ true → r ≢ s
differs w r s h k e = cc (ap (is_stopped w) e, h, k)

-- nothing of a stopped rank changes
pub record Rests (w v : World) : Type 0 where
  pub orders : v.orders ≡ w.orders
  pub stopped : v.stopped ≡ w.stopped
  pub exporter : (x : ℕ) → is_stopped w (from_of w x) ≡ true → exporter_of v x ≡ exporter_of w x
  pub importer : (x : ℕ) → is_stopped w (to_of w x) ≡ true → importer_of v x ≡ importer_of w x

module _ (w v : World) (rested : Rested w) (rests : Rests w v)
    (quiet : (r x : ℕ) → is_stopped w r ≡ true → has v r (JournalEntry.Dropped x) ≡ has w r (JournalEntry.Dropped x)) where
  froms : (x : ℕ) → from_of v x ≡ from_of w x
  froms x = ap (λ (os : List Order). (order_in os x).from) rests.orders

  tos : (x : ℕ) → to_of v x ≡ to_of w x
  tos x = ap (λ (os : List Order). (order_in os x).to) rests.orders

  halts : (r : ℕ) → is_stopped v r ≡ is_stopped w r
  halts r = ap (λ (bs : List Bool). get_or bs r false) rests.stopped

  rests_rested : Rested v
  rests_rested = record {
    exports = λ x h. (let k : is_stopped w (from_of w x) ≡ true = sym (halts (from_of v x) ∙ ap (is_stopped w) (froms x)) ∙ h in
        rw (rests.exporter x k) (rested.exports x k));
    imports = λ x h. (let k : is_stopped w (to_of w x) ≡ true = sym (halts (to_of v x) ∙ ap (is_stopped w) (tos x)) ∙ h in
        rw (rests.importer x k, tos x, quiet (to_of w x) x k) (rested.imports x k));
  }

module _ (w : World) where
  same : Rests w w
  same = record { orders = refl; stopped = refl; exporter = λ x h. refl; importer = λ x h. refl }

  -- one state at a rank that runs changes

  export_changes : (v : World) (x : ℕ) (s : ExporterState) → is_stopped w (from_of w x) ≡ false → v.orders ≡ w.orders
      → v.stopped ≡ w.stopped → v.importers ≡ w.importers →
      v.exporters ≡ set w.exporters x s → Rests w v
  export_changes v x s up o b i e = record {
    orders = o;
    stopped = b;
    exporter = λ y h. ap (λ (es : List ExporterState). get_or es y Aborted) e
        ∙ get_or-set_other w.exporters x y s Aborted (λ k. differs w (from_of w x) (from_of w y) up h (ap (from_of w) (sym k)));
    importer = λ y h. ap (λ (is : List ImporterState). get_or is y Unknown) i;
  }

  import_changes : (v : World) (x : ℕ) (s : ImporterState) → is_stopped w (to_of w x) ≡ false → v.orders ≡ w.orders → v.stopped ≡ w.stopped
      → v.exporters ≡ w.exporters →
      v.importers ≡ set w.importers x s → Rests w v
  import_changes v x s up o b e i = record {
    orders = o;
    stopped = b;
    exporter = λ y h. ap (λ (es : List ExporterState). get_or es y Aborted) e;
    importer = λ y h. ap (λ (is : List ImporterState). get_or is y Unknown) i
        ∙ get_or-set_other w.importers x y s Unknown (λ k. differs w (to_of w x) (to_of w y) up h (ap (to_of w) (sym k)));
  }

  -- a message changes a state only at its receiver

  comes_rests : (m : Message) (e : ExporterState) (i : ImporterState) → is_stopped w (receiver w m) ≡ false → Rests w (acts w m (move m e i)).world
  comes_rests (Discover x) e Unknown up = import_changes _ x Discovered up refl refl refl refl
  comes_rests (Prep x) e Discovered up = import_changes _ x Prepared up refl refl refl refl
  comes_rests (Message.Export x) e Prepared up = import_changes _ x Started up refl refl refl refl
  comes_rests (Finish x) e Started up = import_changes _ x Imported up refl refl refl refl
  comes_rests (Cancel x) e Unknown up = import_changes _ x Dropped up refl refl refl refl
  comes_rests (Cancel x) e Discovered up = import_changes _ x Dropped up refl refl refl refl
  comes_rests (Cancel x) e Prepared up = import_changes _ x Dropped up refl refl refl refl
  comes_rests (Cancel x) e Started up = import_changes _ x Dropped up refl refl refl refl
  comes_rests (DiscoverAck x) Discovering i up = export_changes _ x Freezing up refl refl refl refl
  comes_rests (PrepAck x) Preparing i up = export_changes _ x Exporting up refl refl refl refl
  comes_rests (ExportAck x) Exporting i up = export_changes _ x Logged up refl refl refl refl
  comes_rests (Query x) Done i up = record { orders = refl; stopped = refl; exporter = λ y h. refl; importer = λ y h. refl }
  comes_rests (Query x) Aborted i up = record { orders = refl; stopped = refl; exporter = λ y h. refl; importer = λ y h. refl }
  comes_rests _ _ _ up = same

  delivered_rests : (o : Option Message) → Rests w (delivered w o).world
  delivered_rests None = same
  delivered_rests (Some m) = go (is_stopped w (receiver w m)) refl
    where
      go : (b : Bool) → is_stopped w (receiver w m) ≡ b → Rests w (cond b (ignored w) (comes w m)).world
      go true h = same
      go false h = comes_rests m (exporter_of w (about m)) (importer_of w (about m)) h

  -- who writes an entry runs

  abbrev pub Runs : Option Entry → Type 0
  Runs None = Unit {0}
  Runs (Some e) = is_stopped w e.rank ≡ false

  unwritten : (o : Option Entry) → Runs o → (r : ℕ) (f : JournalEntry) → is_stopped w r ≡ true → adds r o f ≡ false
  unwritten None up r f h = refl
  unwritten (Some e) up r f h = elim (cases_eq e.rank r) [ inl k ↦ absurd (differs w e.rank r up h k) | inr n ↦ rw (apart e.rank r n) refl ]
    where
      apart : (a b : ℕ) → a ≢ b → eqb a b ≡ false
      apart a b n = grind arith

  comes_runs : (m : Message) (o : Option Transition) → is_stopped w (receiver w m) ≡ false → Runs (move_entry (receiver w m) o)
  comes_runs m None up = tt
  comes_runs m (Some v) up = go v.entry
    where
      go : (n : Option JournalEntry) → Runs (noted (receiver w m) n)
      go None = tt
      go (Some e) = up

  delivered_runs : (o : Option Message) → Runs (delivered_entry w o)
  delivered_runs None = tt
  delivered_runs (Some m) = go (is_stopped w (receiver w m)) refl
    where
      go : (b : Bool) → is_stopped w (receiver w m) ≡ b → Runs (cond b None (comes_entry w m))
      go true h = tt
      go false h = comes_runs m (move m (exporter_of w (about m)) (importer_of w (about m))) h

  by_runs : (o : Option ℕ) (e : JournalEntry) → authority_stopped w o ≡ None → Runs (entered_by o e)
  by_runs None e h = tt
  by_runs (Some r) e h = not_refused (is_stopped w r) (StepError.Stopped r) h

  accepted_runs : (e : Event) → refusal w e ≡ None → Runs (accepted_entry w e)
  unfolding causes
  accepted_runs (Event.Made p) h = by_runs (authority w p) (JournalEntry.Made (length w.parents)) (not_refused_causes w (Event.Made p) h).1.1.1.0
  accepted_runs (Event.Gone d) h = by_runs (authority w d) (JournalEntry.Gone d) (not_refused_causes w (Event.Gone d) h).1.1.1.1.1.0
  accepted_runs (Deliver k) h = delivered_runs (slice_get w.sent k)
  accepted_runs (Notify x) h = not_refused _ _ (not_refused_causes w (Notify x) h).1.0
  accepted_runs _ h = tt

  by_rests : (o : Option ℕ) (e : JournalEntry) (ps ns : List (Option ℕ)) → Rests w (record (journaled_by w o e) { parents = ps; named = ns })
  by_rests None e ps ns = record { orders = refl; stopped = refl; exporter = λ y h. refl; importer = λ y h. refl }
  by_rests (Some r) e ps ns = record { orders = refl; stopped = refl; exporter = λ y h. refl; importer = λ y h. refl }

  -- an export starts

  start_rested : Rested w → (from to : ℕ) (dirs : List ℕ) → is_stopped w from ≡ false → length w.exporters ≡ length w.orders
      → length w.importers ≡ length w.orders →
      Rested (happens w (Start from to dirs)).world
  unfolding happens
  start_rested rested from to dirs up el il = record {
    exports = λ x h. elim (cases_eq x (length w.orders)) [
      | inl e ↦ absurd (cc (sym (ap (λ (o : Order). is_stopped w o.from) (ordered x e)) ∙ h, up))
      | inr n ↦ rw (push_other w.exporters Discovering Aborted x (λ k. n (k ∙ el)))
          (rested.exports x (sym (ap (λ (o : Order). is_stopped w o.from) (others x n)) ∙ h))
    ];
    imports = λ x h. elim (cases_eq x (length w.orders)) [
      | inl e ↦ rw (ap (λ k. get_or (w.importers ++ Unknown ∷ []) k Unknown) (e ∙ sym il) ∙ push_same w.importers Unknown Unknown)
          (unknown_rests (has w (order_in (w.orders ++ record { from = from; to = to; dirs = dirs } ∷ []) x).to (JournalEntry.Dropped x)))
      | inr n ↦ rw (push_other w.importers Unknown Unknown x (λ k. n (k ∙ il)))
          (subst (λ (o : Order). importer_at_stop (has w o.to (JournalEntry.Dropped x)) (importer_of w x) ≡ importer_of w x)
          (sym (others x n)) (rested.imports x (sym (ap (λ (o : Order). is_stopped w o.to) (others x n)) ∙ h)))
    ];
  }
    where
      ordered : (x : ℕ) → x ≡ length w.orders → order_in (w.orders ++ record { from = from; to = to; dirs = dirs } ∷ []) x
          ≡ record { from = from; to = to; dirs = dirs }
      ordered x e = rw e (push_same w.orders (record { from = from; to = to; dirs = dirs }) no_order)

      others : (x : ℕ) → x ≢ length w.orders → order_in (w.orders ++ record { from = from; to = to; dirs = dirs } ∷ []) x ≡ order_in w.orders x
      others x n = push_other w.orders (record { from = from; to = to; dirs = dirs }) no_order x n

  -- a rank stops

  stop_rested : Rested w → (r : ℕ) → Rested (stops w r)
  stop_rested rested r = record {
    exports = λ x h. elim (cases_lt x (length w.exporters)) [
      | inl near ↦ rw (map_at_get (λ y state. cond (eqb (from_of w y) r) (exporter_by_journal w r y) state) w.exporters x Aborted Aborted
          near) (exporter x h (eqb (from_of w x) r) refl)
      | inr far ↦ rw (map_at_past (λ y state. cond (eqb (from_of w y) r) (exporter_by_journal w r y) state) w.exporters x Aborted far) refl
    ];
    imports = λ x h. elim (cases_lt x (length w.importers)) [
      | inl near ↦ rw (map_at_get (λ y state. cond (eqb (to_of w y) r) (importer_by_journal w r y) state) w.importers x Unknown Unknown
          near) (importer x h (eqb (to_of w x) r) refl)
      | inr far ↦ rw (map_at_past (λ y state. cond (eqb (to_of w y) r) (importer_by_journal w r y) state) w.importers x Unknown far)
          (unknown_rests (has w (to_of w x) (JournalEntry.Dropped x)))
    ];
  }
    where
      unlike : (a b : ℕ) → eqb a b ≡ false → a ≢ b
      unlike a b h = grind arith

      before : (s : ℕ) → eqb s r ≡ false → get_or (set w.stopped r true) s false ≡ true → is_stopped w s ≡ true
      before s e h = sym (get_or-set_other w.stopped r s true false (unlike s r e)) ∙ h

      exporter : (x : ℕ) → get_or (set w.stopped r true) (from_of w x) false ≡ true → (b : Bool) → eqb (from_of w x) r ≡ b →
          exporter_at_stop (cond b (exporter_by_journal w r x) (exporter_of w x)) ≡ cond b (exporter_by_journal w r x) (exporter_of w x)
      exporter x h true e = told_exporter (has w r (JournalEntry.Notified x)) (has w r (JournalEntry.Exported x))
      exporter x h false e = rested.exports x (before (from_of w x) e h)

      importer : (x : ℕ) → get_or (set w.stopped r true) (to_of w x) false ≡ true → (b : Bool) → eqb (to_of w x) r ≡ b →
          importer_at_stop (has w (to_of w x) (JournalEntry.Dropped x)) (cond b (importer_by_journal w r x) (importer_of w x))
          ≡ cond b (importer_by_journal w r x) (importer_of w x)
      importer x h true e = rw (eqb-true (to_of w x) r e)
          (told_importer (has w r (JournalEntry.Imported x)) (has w r (JournalEntry.Dropped x)) (has w r (JournalEntry.Started x)))
      importer x h false e = rested.imports x (before (to_of w x) e h)

  -- a rank runs again

  restart_rested : Rested w → (r : ℕ) (b : Bool) → Rested (cond b (changed (restarts w r)) (ignored w)).world
  restart_rested rested r false = rested
  restart_rested rested r true = record {
    exports = λ x h. elim (cases_lt x (length w.exporters)) [
      | inl near ↦ rw (map_at_get (λ y state. cond (eqb (from_of w y) r) (exporter_by_journal w r y) state) w.exporters x Aborted Aborted
          near) (exporter x h (eqb (from_of w x) r) refl)
      | inr far ↦ rw (map_at_past (λ y state. cond (eqb (from_of w y) r) (exporter_by_journal w r y) state) w.exporters x Aborted far) refl
    ];
    imports = λ x h. elim (cases_lt x (length w.importers)) [
      | inl near ↦ rw (map_at_get (λ y state. cond (eqb (to_of w y) r) (importer_by_journal w r y) state) w.importers x Unknown Unknown
          near) (importer x h (eqb (to_of w x) r) refl)
      | inr far ↦ rw (map_at_past (λ y state. cond (eqb (to_of w y) r) (importer_by_journal w r y) state) w.importers x Unknown far)
          (unknown_rests (has w (to_of w x) (JournalEntry.Dropped x)))
    ];
  }
    where
      unlike : (a b : ℕ) → eqb a b ≡ false → a ≢ b
      unlike a b h = grind arith

      before : (s : ℕ) → eqb s r ≡ false → get_or (set w.stopped r false) s false ≡ true → is_stopped w s ≡ true
      before s e h = sym (get_or-set_other w.stopped r s false false (unlike s r e)) ∙ h

      runs : (s : ℕ) → eqb s r ≡ true → get_or (set w.stopped r false) s false ≡ true → ⊥
      runs s e h = cc (rw (eqb-true s r e) at h, set_false w.stopped r)

      exporter : (x : ℕ) → get_or (set w.stopped r false) (from_of w x) false ≡ true → (b : Bool) → eqb (from_of w x) r ≡ b →
          exporter_at_stop (cond b (exporter_by_journal w r x) (exporter_of w x)) ≡ cond b (exporter_by_journal w r x) (exporter_of w x)
      exporter x h true e = absurd (runs (from_of w x) e h)
      exporter x h false e = rested.exports x (before (from_of w x) e h)

      importer : (x : ℕ) → get_or (set w.stopped r false) (to_of w x) false ≡ true → (b : Bool) → eqb (to_of w x) r ≡ b →
          importer_at_stop (has w (to_of w x) (JournalEntry.Dropped x)) (cond b (importer_by_journal w r x) (importer_of w x))
          ≡ cond b (importer_by_journal w r x) (importer_of w x)
      importer x h true e = absurd (runs (to_of w x) e h)
      importer x h false e = rested.imports x (before (to_of w x) e h)

-- every accepted event

counted_rested : (u : World) → Rested u → Rested (counted u)
counted_rested u r = record { exports = r.exports; imports = r.imports }

counted_rests : (w u : World) → Rests w u → Rests w (counted u)
counted_rests w u r = record { orders = r.orders; stopped = r.stopped; exporter = r.exporter; importer = r.importer }

module _ (w : World) (reached : IsReached w) (rested : Rested w) where
  world_is : (e : Event) → refusal w e ≡ None → (step w e).1 ≡ counted (happens w e).world
  unfolding step
  world_is e h = rw h refl

  grew : (e : Event) → refusal w e ≡ None → (r : ℕ) → journal_of (step w e).1 r ≡ entered r (accepted_entry w e) (journal_of w r)
  unfolding entry
  grew e h r = (is_recorded w reached e).journals r ∙ ap (λ o. entered r o (journal_of w r)) (rw h refl)

  quiet : (e : Event) → refusal w e ≡ None → (r x : ℕ) → is_stopped w r ≡ true → has (step w e).1 r (JournalEntry.Dropped x) ≡ has w r (JournalEntry.Dropped x)
  quiet e h r x s =
      ap (λ j. has_entry j (JournalEntry.Dropped x)) (grew e h r) ∙ (entered_has r (accepted_entry w e) (journal_of w r) (JournalEntry.Dropped x)
      ∙ alone (has w r (JournalEntry.Dropped x)) (adds r (accepted_entry w e) (JournalEntry.Dropped x))
      (unwritten w (accepted_entry w e) (accepted_runs w e h) r (JournalEntry.Dropped x) s))
    where
      alone : (a b : Bool) → b ≡ false → (a || b) ≡ a
      alone a b k = grind arith

  by_rule : (e : Event) → refusal w e ≡ None → Rests w (happens w e).world → Rested (step w e).1
  by_rule e h r = rests_rested w (step w e).1 rested (subst (Rests w) (sym (world_is e h)) (counted_rests w (happens w e).world r)) (quiet e h)

  by_world : (e : Event) → refusal w e ≡ None → Rested (happens w e).world → Rested (step w e).1
  by_world e h r = subst Rested (sym (world_is e h)) (counted_rested (happens w e).world r)

  accepted_rested : (e : Event) → refusal w e ≡ None → Rested (step w e).1
  unfolding happens causes
  accepted_rested (Event.Made p) h = by_rule (Event.Made p) h
      (by_rests w (authority w p) (JournalEntry.Made (length w.parents)) (w.parents ++ Some p ∷ []) (w.named ++ authority w p ∷ []))
  accepted_rested (Event.Gone d) h = by_rule (Event.Gone d) h (by_rests w (authority w d) (JournalEntry.Gone d) (set w.parents d None) (set w.named d None))
  accepted_rested (Begin r d) h = by_rule (Begin r d) h (record { orders = refl; stopped = refl; exporter = λ y k. refl; importer = λ y k. refl })
  accepted_rested (End t) h = by_rule (End t) h (record { orders = refl; stopped = refl; exporter = λ y k. refl; importer = λ y k. refl })
  accepted_rested (Start f t ds) h = by_world (Start f t ds) h (start_rested w rested f t ds (not_refused _ _ (not_refused_causes w (Start f t ds) h).1.1.0)
      (numbers_by w reached (length w.exporters) (length w.orders) (λ safe. safe.exporting))
      (numbers_by w reached (length w.importers) (length w.orders) (λ safe. safe.importing)))
  accepted_rested (Deliver k) h = by_rule (Deliver k) h (delivered_rests w (slice_get w.sent k))
  accepted_rested (Froze x) h =
      by_rule (Froze x) h (export_changes w (happens w (Froze x)).world x Preparing (not_refused _ _ (not_refused_causes w (Froze x) h).1.0)
      refl refl refl refl)
  accepted_rested (Notify x) h = by_rule (Notify x) h
      (export_changes w (happens w (Notify x)).world x Done (not_refused _ _ (not_refused_causes w (Notify x) h).1.0) refl refl refl refl)
  accepted_rested (Abort x) h =
      by_rule (Abort x) h (export_changes w (happens w (Abort x)).world x Aborted (not_refused _ _ (not_refused_causes w (Abort x) h).1.0)
      refl refl refl refl)
  accepted_rested (Stop r) h = by_world (Stop r) h (stop_rested w rested r)
  accepted_rested (Restart r) h = by_world (Restart r) h (restart_rested w rested r (is_stopped w r))
  accepted_rested (Ask x) h = by_rule (Ask x) h (record { orders = refl; stopped = refl; exporter = λ y k. refl; importer = λ y k. refl })

  step_rested : (e : Event) → Rested (step w e).1
  unfolding step
  step_rested e = go (refusal w e) refl
    where
      go : (o : Option StepError) → refusal w e ≡ o → Rested (answered w (happens w e) (refusal w e)).1
      go None h = accepted_rested e h
      go (Some f) h = rw h rested

pub run_rested : (es : List Event) (w : World) → IsReached w → Rested w → Rested (run w es)
run_rested [] w r rested = rested
run_rested (e ∷ es) w r rested = run_rested es (step w e).1 (reached_step w r e) (step_rested w r rested e)

start_rests : (limit ranks : ℕ) → Rested (start limit ranks)
unfolding start
start_rests limit ranks = record {
  exports = λ x h. refl;
  imports = λ x h. unknown_rests (has (start limit ranks) (to_of (start limit ranks) x) (JournalEntry.Dropped x));
}

by_rested : (w : World) → IsReached w → (Rested w → ⊥) → ⊥
by_rested w h k = ∥∥₁_elim h (λ x y. absurd x) (λ r. k (subst Rested r.4 (run_rested r.2 (start r.0 r.1) (started r.0 r.1 r.3) (start_rests r.0 r.1))))

-- the states of a stopped rank are those of its journal

module _ (w : World) (h : IsReached w) (r : ℕ) (stopped : is_stopped w r ≡ true) where
  export_kept : (x : ℕ) → from_of w x ≡ r → exporter_at_stop (exporter_of w x) ≡ exporter_of w x
  export_kept x e = elim (same_exporter (exporter_at_stop (exporter_of w x)) (exporter_of w x)) [
    | inl s ↦ s
    | inr n ↦ absurd (by_rested w h (λ rested. n (rested.exports x (rw e stopped))))
  ]

  import_kept : (x : ℕ) → to_of w x ≡ r → importer_at_stop (has w (to_of w x) (JournalEntry.Dropped x)) (importer_of w x) ≡ importer_of w x
  import_kept x e = elim (same_importer (importer_at_stop (has w (to_of w x) (JournalEntry.Dropped x)) (importer_of w x)) (importer_of w x)) [
    | inl s ↦ s
    | inr n ↦ absurd (by_rested w h (λ rested. n (rested.imports x (rw e stopped))))
  ]

  pub is_recovered : IsRecovered w r
  is_recovered = record {
    exports = λ x e. exporters_by w h (exporter_of w x) (exporter_by_journal w r x)
        (λ safe. sym (subst (λ s. exporter_by_journal w s x ≡ exporter_at_stop (exporter_of w x)) e (exporter_journaled w safe r x) ∙ export_kept x e));
    imports = λ x e. importers_by w h (importer_of w x) (importer_by_journal w r x)
        (λ safe. sym (subst (λ s. importer_by_journal w s x
        ≡ importer_at_stop (has w (to_of w x) (JournalEntry.Dropped x)) (importer_of w x)) e (importer_journaled w safe r x)
        ∙ import_kept x e));
  }

  -- so a restart changes no state
  pub restarts_same : restarts w r ≡ record w { stopped = set w.stopped r false }
  restarts_same =
      ap (λ es. record (restarts w r) { exporters = es })
      (same_here _ (λ x s. s) w.exporters Aborted (λ x l. exporting x (eqb (from_of w x) r) refl) ∙ unchanged w.exporters)
      ∙ ap (λ is. record w { importers = is; stopped = set w.stopped r false })
      (same_here _ (λ x s. s) w.importers Unknown (λ x l. importing x (eqb (to_of w x) r) refl) ∙ unchanged w.importers)
    where
      exporting : (x : ℕ) (b : Bool) → eqb (from_of w x) r ≡ b → cond b (exporter_by_journal w r x) (exporter_of w x) ≡ exporter_of w x
      exporting x true e = sym (is_recovered.exports x (eqb-true (from_of w x) r e))
      exporting x false e = refl

      importing : (x : ℕ) (b : Bool) → eqb (to_of w x) r ≡ b → cond b (importer_by_journal w r x) (importer_of w x) ≡ importer_of w x
      importing x true e = sym (is_recovered.imports x (eqb-true (to_of w x) r e))
      importing x false e = refl
