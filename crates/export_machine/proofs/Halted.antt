-- What a stop and a restart leave of the states.
use Rattle.std.proofs.Common.{◌≡◌, ℕ, ◌<◌, Bool, true, false, ◌&&◌, not, eqb, cond, List, [], length}
use Rattle.std.proofs.Common.{get_or, set, None, refl, sym, ap, ◌∙◌, subst, inl, inr, ◌⊎◌, arith}
use Rattle.std.proofs.lemmas.Bool.{and_parts, cases_lt, cases_Bool, eqb-true, leb-false}
use Rattle.export_protocol.specs.declared.exporter.ExporterState.{ExporterState}
use Rattle.export_protocol.specs.declared.importer.ImporterState.{ImporterState}
use Rattle.export_protocol.specs.declared.journal.JournalEntry.{JournalEntry}
use Rattle.export_protocol.specs.declared.exporter.ExporterState.TheVariants.{Aborted}
use Rattle.export_protocol.specs.declared.importer.ImporterState.TheVariants.{Unknown, Dropped}
use Rattle.export_protocol.specs.Cluster.{World}
use Rattle.mds_types.specs.declared.order.Order.{Order}
use Rattle.export_protocol.specs.Authority.{is_among, order_in, from_of, to_of, exporter_of, importer_of, has, authority, open_export}
use Rattle.export_protocol.specs.Step.{refusal, causes, map_at, is_before_log, exporter_by_journal, importer_by_journal, ends_at, recovered, stops}
use Rattle.export_protocol.specs.declared.event.Event.TheVariants.{Stop}
use Rattle.export_protocol.specs.View.{IsReached}
use Rattle.export_machine.specs.Kept.{Indexes, IsIndexed, AreListed, is_passing}
use Rattle.export_protocol.specs.Entries.{exporter_at_stop, importer_at_stop}
use Rattle.export_protocol.proofs.Events.{not_refused}
use Rattle.export_protocol.proofs.Theorem.{not_refused_causes}
use Rattle.export_protocol.proofs.Stops.{exporter_journaled, importer_journaled}
use Rattle.export_protocol.proofs.Halting.{same_here}
use Rattle.export_protocol.proofs.Views.{map_at_get, map_at_past}
use Rattle.export_protocol.proofs.Reached.{exporters_by, importers_by}

-- states by the invariant

-- the changes of a stop, one after the other

abbrev pub aborts : ℕ → World → World
aborts rank w = record w { exporters = map_at (λ x state. cond (eqb (from_of w x) rank) (exporter_at_stop state) state) w.exporters }

abbrev pub forgets : ℕ → World → World
forgets rank w = record w {
  importers =
      map_at (λ x state. cond (eqb (to_of w x) rank) (importer_at_stop (has w rank (JournalEntry.Dropped x)) state) state) w.importers;
}

abbrev pub ends : ℕ → World → World
ends rank w = record w { tickets = map_at (λ t request. ends_at rank request) w.tickets }

-- what the journal holds is what these changes leave

pub recovered_all : (rank : ℕ) (w : World) → IsReached w → recovered w rank ≡ forgets rank (aborts rank w)
recovered_all rank w r =
    ap (λ es. record (recovered w rank) { exporters = es }) (same_here _ _ w.exporters Aborted (λ x l. exporting x (eqb (from_of w x) rank) refl))
    ∙ ap (λ is. record (aborts rank w) { importers = is }) (same_here _ _ w.importers Unknown (λ x l. importing x (eqb (to_of w x) rank) refl))
  where
    exporting : (x : ℕ) (b : Bool) → eqb (from_of w x) rank ≡ b
        → cond b (exporter_by_journal w rank x) (exporter_of w x) ≡ cond b (exporter_at_stop (exporter_of w x)) (exporter_of w x)
    exporting x true e = exporters_by w r (exporter_by_journal w rank x) (exporter_at_stop (exporter_of w x))
        (λ safe. subst (λ s. exporter_by_journal w s x ≡ exporter_at_stop (exporter_of w x)) (eqb-true (from_of w x) rank e) (exporter_journaled w safe rank x))
    exporting x false e = refl

    importing : (x : ℕ) (b : Bool) → eqb (to_of w x) rank ≡ b
        → cond b (importer_by_journal w rank x) (importer_of w x)
        ≡ cond b (importer_at_stop (has w rank (JournalEntry.Dropped x)) (importer_of w x)) (importer_of w x)
    importing x true e = importers_by w r (importer_by_journal w rank x) (importer_at_stop (has w rank (JournalEntry.Dropped x)) (importer_of w x))
        (λ safe. subst (λ s. importer_by_journal w s x ≡ importer_at_stop (has w s (JournalEntry.Dropped x)) (importer_of w x))
        (eqb-true (to_of w x) rank e) (importer_journaled w safe rank x))
    importing x false e = refl

pub stops_all : (rank : ℕ) (w : World) → IsReached w → stops w rank ≡ record (ends rank (forgets rank (aborts rank w))) { stopped = set w.stopped rank true }
stops_all rank w r = ap (λ (u : World). record u {
  tickets = map_at (λ t request. ends_at rank request) w.tickets;
  stopped = set w.stopped rank true;
}) (recovered_all rank w r)

-- who is stopped decides no table
pub stopped_indexed : (w : World) (i : Indexes) → IsIndexed w i → (stopped : List Bool) → IsIndexed (record w { stopped = stopped }) i
unfolding authority open_export
stopped_indexed w i is stopped = record {
  owners = is.owners;
  opened = is.opened;
  running = is.running;
  children = is.children;
  owner_places = is.owner_places;
  opened_places = is.opened_places;
  running_places = is.running_places;
  children_places = is.children_places;
  unmarked = is.unmarked;
  requests = is.requests;
  listed = is.listed;
  dropped_places = is.dropped_places;
}

-- what an accepted stop or restart can rely on

pub stop_rank : (w : World) (rank : ℕ) → refusal w (Stop rank) ≡ None → rank < w.ranks
unfolding causes
stop_rank w rank h = leb-false w.ranks rank (not_refused _ _ (not_refused_causes w (Stop rank) h).0)

pub before_stops : (s : ExporterState) → is_before_log s ≡ true → exporter_at_stop s ≡ Aborted
before_stops s h = grind arith

pub others_stay : (s : ExporterState) → is_before_log s ≡ false → exporter_at_stop s ≡ s
others_stay s h = grind arith

-- Stops go through the exports that are listed.

exporter_twice : (s : ExporterState) → exporter_at_stop (exporter_at_stop s) ≡ exporter_at_stop s
exporter_twice s = grind arith

importer_twice : (d : Bool) (s : ImporterState) → importer_at_stop d (importer_at_stop d s) ≡ importer_at_stop d s
importer_twice d s = grind arith

pub halted_twice : (b : Bool) (s : ExporterState) → cond b (exporter_at_stop (cond b (exporter_at_stop s) s))
    (cond b (exporter_at_stop s) s) ≡ cond b (exporter_at_stop s) s
halted_twice true s = exporter_twice s
halted_twice false s = refl

pub left_twice : (b d : Bool) (s : ImporterState) → cond b (importer_at_stop d (cond b (importer_at_stop d s) s))
    (cond b (importer_at_stop d s) s) ≡ cond b (importer_at_stop d s) s
left_twice true d s = importer_twice d s
left_twice false d s = refl

pub is_halted : (b : Bool) (s : ExporterState) → (b && is_before_log s) ≡ true → Aborted ≡ cond b (exporter_at_stop s) s
is_halted true s h = sym (before_stops s h)
is_halted false s h = absurd (cc)

pub not_halted : (b : Bool) (s : ExporterState) → (b && is_before_log s) ≡ false → cond b (exporter_at_stop s) s ≡ s
not_halted true s h = others_stay s h
not_halted false s h = refl

not_left : (b d : Bool) (s : ImporterState) → (d ≡ true → s ≡ Dropped) → (b && is_passing s && not d) ≡ false → cond b (importer_at_stop d s) s ≡ s
not_left b d s f h = grind arith

module _ (ranks : ℕ) (os : List Order) (es : List ExporterState) (is : List ImporterState) (js : List (List JournalEntry))
    (ls : List (List ℕ)) (ns : List Bool) (l : AreListed ranks os es is js ls ns) (rank : ℕ) where
  pub unlisted_exporter : (x : ℕ) → is_among (get_or ls rank []) x ≡ false →
      cond (eqb (order_in os x).from rank) (exporter_at_stop (get_or es x Aborted)) (get_or es x Aborted) ≡ get_or es x Aborted
  unlisted_exporter x h = not_halted (eqb (order_in os x).from rank) (get_or es x Aborted)
      (go (cases_Bool (eqb (order_in os x).from rank && is_before_log (get_or es x Aborted))))
    where
      go : ((eqb (order_in os x).from rank && is_before_log (get_or es x Aborted)) ≡ true)
          ⊎ ((eqb (order_in os x).from rank && is_before_log (get_or es x Aborted)) ≡ false) →
          (eqb (order_in os x).from rank && is_before_log (get_or es x Aborted)) ≡ false
      go (inr f) = f
      go (inl t) =
          let p = and_parts (eqb (order_in os x).from rank) (is_before_log (get_or es x Aborted)) t in
          absurd (differ (sym (ap (λ s. is_among (get_or ls s []) x) (eqb-true (order_in os x).from rank p.0) ∙ h) ∙ l.exports x p.1))
        where
          differ : false ≡ true → ⊥
          differ e = cc

  pub unlisted_importer : ((x : ℕ) → (order_in os x).to ≡ rank → get_or ns x false ≡ true → get_or is x Unknown ≡ Dropped) → (x : ℕ)
      → is_among (get_or ls rank []) x ≡ false →
      cond (eqb (order_in os x).to rank) (importer_at_stop (get_or ns x false) (get_or is x Unknown)) (get_or is x Unknown) ≡ get_or is x Unknown
  unlisted_importer drops x h = go (eqb (order_in os x).to rank) refl
    where
      differ : false ≡ true → ⊥
      differ e = cc

      here : (order_in os x).to ≡ rank → (b : Bool) → (is_passing (get_or is x Unknown) && not (get_or ns x false)) ≡ b → b ≡ false
      here e false k = refl
      here e true k =
          let p = and_parts (is_passing (get_or is x Unknown)) (not (get_or ns x false)) k in
          absurd (differ (sym (ap (λ s. is_among (get_or ls s []) x) e ∙ h) ∙ l.imports x p.0 (sym (l.tells x) ∙ unset (get_or ns x false) p.1)))
        where
          unset : (b : Bool) → not b ≡ true → b ≡ false
          unset b h = grind arith

      go : (b : Bool) → eqb (order_in os x).to rank ≡ b → cond b (importer_at_stop (get_or ns x false) (get_or is x Unknown))
          (get_or is x Unknown) ≡ get_or is x Unknown
      go false e = refl
      go true e = not_left true (get_or ns x false) (get_or is x Unknown) (drops x (eqb-true (order_in os x).to rank e))
          (here (eqb-true (order_in os x).to rank e) (is_passing (get_or is x Unknown) && not (get_or ns x false)) refl)

pub dropped_there : (w : World) → IsReached w → (rank x : ℕ) → has w rank (JournalEntry.Dropped x) ≡ true → importer_of w x ≡ Dropped
dropped_there w r rank x h = importers_by w r (importer_of w x) Dropped (λ safe. (safe.tables.dropped rank x h).1)

-- after a stop the imports that are left are among those that were listed
pub left_listed : (w : World) (i : Indexes) (rank : ℕ) → IsIndexed w i
    → AreListed w.ranks w.orders w.exporters (forgets rank w).importers w.journals i.open_at i.dropped
left_listed w i rank is = record {
  exports = is.listed.exports;
  imports = λ x h k. is.listed.imports x (was x h) k;
  tells = is.listed.tells;
  ranked = is.listed.ranked;
}
  where
    differ : false ≡ true → ⊥
    differ e = cc

    before : (d : Bool) (s : ImporterState) → is_passing (importer_at_stop d s) ≡ true → is_passing s ≡ true
    before d s h = grind arith

    was : (x : ℕ) → is_passing (get_or (forgets rank w).importers x Unknown) ≡ true → is_passing (importer_of w x) ≡ true
    was x h = elim (cases_lt x (length w.importers)) [
      | inr m ↦ absurd (differ (ap is_passing
          (sym (map_at_past (λ y state. cond (eqb (to_of w y) rank) (importer_at_stop (has w rank (JournalEntry.Dropped y)) state) state)
          w.importers x Unknown m)) ∙ h))
      | inl m ↦ go (eqb (to_of w x) rank)
          (ap is_passing (sym (map_at_get
          (λ y state. cond (eqb (to_of w y) rank) (importer_at_stop (has w rank (JournalEntry.Dropped y)) state) state) w.importers x
          Unknown Unknown m)) ∙ h)
    ]
      where
        go : (b : Bool) → is_passing (cond b (importer_at_stop (has w rank (JournalEntry.Dropped x)) (importer_of w x)) (importer_of w x))
            ≡ true → is_passing (importer_of w x) ≡ true
        go true k = before (has w rank (JournalEntry.Dropped x)) (importer_of w x) k
        go false k = k
