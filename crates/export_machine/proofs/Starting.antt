-- How the tables by directory follow an export that starts.
use Rattle.std.proofs.Common.{◌≡◌, ◌≢◌, ℕ, suc, ◌<◌, Bool, true, false, ◌&&◌, not, eqb, cond, List, [], ◌∷◌, ◌++◌}
use Rattle.std.proofs.Common.{◌+◌, length, get_or, set, Option, Some, None, refl, sym, ap, ◌∙◌, inl, inr, ◌⊎◌, arith}
use Rattle.std.proofs.lemmas.Bool.{cases_eq, cases_Bool, leb-false, not-false}
use Rattle.std.proofs.lemmas.List.{get_or_past, length-set}
use Rattle.export_protocol.specs.declared.journal.JournalEntry.{JournalEntry}
use Rattle.export_protocol.specs.declared.exporter.ExporterState.{ExporterState}
use Rattle.export_protocol.specs.declared.exporter.ExporterState.TheVariants.{Discovering, Aborted}
use Rattle.export_protocol.specs.declared.importer.ImporterState.TheVariants.{Unknown}
use Rattle.export_protocol.specs.Cluster.{World}
use Rattle.mds_types.specs.declared.order.Order.{Order}
use Rattle.export_protocol.specs.Authority.{no_order, order_in, is_among, is_inside, to_of, importer_of}
use Rattle.export_protocol.specs.Authority.{has, authority, is_open, is_aborted, open_export, or_else}
use Rattle.export_protocol.specs.Step.{refusal, causes, map_at, busy, elsewhere, repeats, is_connected, is_before_log}
use Rattle.export_protocol.specs.declared.event.Event.TheVariants.{Start}
use Rattle.export_protocol.specs.View.{IsReached}
use Rattle.export_machine.specs.Kept.{Indexes, IsIndexed, AreListed, is_passing}
use Rattle.export_machine.proofs.Listed.{pushed, pushed_here}
use Rattle.export_protocol.proofs.Accepted.{numbers_by, start_there}
use Rattle.export_protocol.proofs.Views.{push_same, push_other, length_push, map_at_length}
use Rattle.export_protocol.proofs.Safe.{Safe}
use Rattle.export_protocol.proofs.Lookups.{authority_is, no_open, free_owner}
use Rattle.export_protocol.proofs.Events.{NoneOf, none_of, not_refused, busy_none, is_here, least_none, with_export}
use Rattle.export_protocol.proofs.Theorem.{not_refused_causes}
use Rattle.export_machine.proofs.Owners.{start_authority}
use Rattle.export_protocol.proofs.Found.{options_by, tests_by, first_same}
use Rattle.export_machine.proofs.Indexing.{marked}

and_no : (a b : Bool) → (not a && b) ≡ true → a ≡ false
and_no a b h = grind arith

module _ (w : World) (from to : ℕ) (dirs : List ℕ) (h : refusal w (Start from to dirs) ≡ None) where
  pub start_distinct : repeats dirs ≡ false
  unfolding causes
  start_distinct = and_no (repeats dirs) _ (not-false (is_connected w dirs) (not_refused _ _ (not_refused_causes w (Start from to dirs) h).1.1.1.1.1.0))

  leaves : (d : ℕ) → is_among dirs d ≡ true → NoneOf (busy (open_export w d) ∷ elsewhere from (authority w d) ∷ [])
  unfolding causes
  leaves d i = none_of (busy (open_export w d) ∷ elsewhere from (authority w d) ∷ [])
      (least_none w from dirs (length w.parents) (not_refused_causes w (Start from to dirs) h).1.1.1.1.1.1.0 d (start_there w from to dirs h d i) i)

  pub start_closed : (d : ℕ) → is_among dirs d ≡ true → open_export w d ≡ None
  start_closed d i = busy_none (open_export w d) (leaves d i).0

  pub start_from_rank : from < w.ranks
  unfolding causes
  start_from_rank = leb-false w.ranks from (not_refused _ _ (not_refused_causes w (Start from to dirs) h).0)

  to_rank : to < w.ranks
  unfolding causes
  to_rank = leb-false w.ranks to (not_refused _ _ (not_refused_causes w (Start from to dirs) h).1.0)

  started_authority : Safe w → (d : ℕ) → authority (with_export w from to dirs) d ≡ authority w d
  started_authority safe d = start_authority w safe from to dirs (rw safe.all_ranks start_from_rank) (rw safe.all_ranks to_rank)
      (λ c i. free_owner w safe from c (authority_is w c from (is_here from (authority w c) (leaves c i).1.0)).1 (no_open w safe c (start_closed c i)))
      (λ x c i j. no_open w safe c (start_closed c i) x j) d

  module _ (safe : Safe w) where
    same_test : (y d : ℕ) (e e' : ExporterState) (t t' : ℕ) (ds ds' : List ℕ) → e ≡ e' → t ≡ t' → ds ≡ ds' →
        (not (is_aborted e) && not (has w t (JournalEntry.Imported y)) && is_among ds d)
        ≡ (not (is_aborted e') && not (has w t' (JournalEntry.Imported y)) && is_among ds' d)
    same_test y d e e' t t' ds ds' h k l = rw (h, k, l) refl

    old_open : (y d : ℕ) → y < length w.orders → (is_open (with_export w from to dirs) y && is_inside (with_export w from to dirs) y d)
        ≡ (is_open w y && is_inside w y d)
    old_open y d l =
        let n : y ≢ length w.orders = λ e. absurd (omega arith) in
        let m : y ≢ length w.exporters = λ e. absurd (omega (arith, safe.exporting)) in
        let o : get_or (w.orders ++ record { from = from; to = to; dirs = dirs } ∷ []) y no_order
        ≡ get_or w.orders y no_order = push_other w.orders (record { from = from; to = to; dirs = dirs }) no_order y n in
        same_test y d (get_or (w.exporters ++ Discovering ∷ []) y Aborted) (get_or w.exporters y Aborted)
        (get_or (w.orders ++ record { from = from; to = to; dirs = dirs } ∷ []) y no_order).to (get_or w.orders y no_order).to
        (get_or (w.orders ++ record { from = from; to = to; dirs = dirs } ∷ []) y no_order).dirs (get_or w.orders y no_order).dirs
        (push_other w.exporters Discovering Aborted y m) (ap (λ (a : Order). a.to) o) (ap (λ (a : Order). a.dirs) o)

    new_open : (d : ℕ) → (is_open (with_export w from to dirs) (length w.orders)
        && is_inside (with_export w from to dirs) (length w.orders) d) ≡ is_among dirs d
    new_open d =
        let o : get_or (w.orders ++ record { from = from; to = to; dirs = dirs } ∷ []) (length w.orders) no_order
        ≡ record { from = from; to = to; dirs = dirs } = push_same w.orders (record { from = from; to = to; dirs = dirs }) no_order in
        let e : get_or (w.exporters ++ Discovering ∷ []) (length w.orders) Aborted
        ≡ Discovering = rw (← safe.exporting) (push_same w.exporters Discovering Aborted) in
        let i : importer_of w (length w.orders) ≡ Unknown = get_or_past w.importers (length w.orders) Unknown (omega (arith, safe.importing)) in
        same_test (length w.orders) d (get_or (w.exporters ++ Discovering ∷ []) (length w.orders) Aborted) Discovering
        (get_or (w.orders ++ record { from = from; to = to; dirs = dirs } ∷ []) (length w.orders) no_order).to to
        (get_or (w.orders ++ record { from = from; to = to; dirs = dirs } ∷ []) (length w.orders) no_order).dirs dirs
        e (ap (λ (a : Order). a.to) o) (ap (λ (a : Order). a.dirs) o)
        ∙ closed (has w to (JournalEntry.Imported (length w.orders))) (is_among dirs d)
        (safe.tables.imported to (length w.orders) ∙ rw i (never (eqb to (to_of w (length w.orders)))))
      where
        never : (b : Bool) → (b && false) ≡ false
        never b = grind arith

        closed : (b c : Bool) → b ≡ false → ((true && not b) && c) ≡ c
        closed b c k = grind arith

    found : (d : ℕ) → open_export (with_export w from to dirs) d ≡ or_else (open_export w d) (cond (is_among dirs d) (Some (length w.orders)) None)
    unfolding open_export
    found d = rw (count w.orders (record { from = from; to = to; dirs = dirs }))
        (rw (
          first_same (length w.orders) (λ y. is_open (with_export w from to dirs) y && is_inside (with_export w from to dirs) y d)
              (λ y. is_open w y && is_inside w y d) (λ y l. old_open y d l),
          new_open d,
        ) refl)
      where
        count : (xs : List Order) (a : Order) → length (xs ++ a ∷ []) ≡ suc (length xs)
        count [] a = refl
        count (x ∷ xs) a = ap suc (count xs a)

    opened : (xs : List (Option ℕ)) → length xs ≡ length w.parents → (d : ℕ) → get_or xs d None ≡ open_export w d →
        get_or (map_at (λ k old. cond (is_among dirs k) (Some (length w.orders)) old) xs) d None ≡ open_export (with_export w from to dirs) d
    opened xs l d e = marked xs (is_among dirs) (Some (length w.orders)) d (λ i. rw l (start_there w from to dirs h d i)) ∙ go (is_among dirs d) refl
      where
        go : (b : Bool) → is_among dirs d ≡ b → cond b (Some (length w.orders)) (get_or xs d None) ≡ open_export (with_export w from to dirs) d
        go true i = sym (found d ∙ rw (start_closed d i, i) refl)
        go false i = e ∙ sym (found d ∙ rw i (plain (open_export w d)))
          where
            plain : (o : Option ℕ) → or_else o None ≡ o
            plain None = refl
            plain (Some a) = refl

  new_listed : IsReached w → (ls : List (List ℕ)) (ns : List Bool) → AreListed w.ranks w.orders w.exporters w.importers w.journals ls ns
      → length ns ≡ length w.orders →
      AreListed w.ranks (with_export w from to dirs).orders (with_export w from to dirs).exporters (with_export w from to dirs).importers
      w.journals (set ls from (get_or ls from [] ++ length w.orders ∷ [])) (ns ++ false ∷ [])
  new_listed r ls ns l places = record {
    exports = λ x h. elim (cases_eq x (length w.orders)) [
      | inl e ↦ rw (e, here) (pushed_here ls from (length w.orders) ranked)
      | inr n ↦ rw (other x n) (pushed ls from (length w.orders) (order_in w.orders x).from x ranked
          (l.exports x (ap is_before_log (sym (push_other w.exporters Discovering Aborted x (λ k. n (k ∙ exporting)))) ∙ h)))
    ];
    imports = λ x h k. elim (cases_eq x (length w.orders)) [
      | inl e ↦ absurd (differ (ap is_passing
          (sym (ap (λ j. get_or (w.importers ++ Unknown ∷ []) j Unknown) (e ∙ sym importing) ∙ push_same w.importers Unknown Unknown)) ∙ h))
      | inr n ↦ rw (other x n) (pushed ls from (length w.orders) (order_in w.orders x).to x ranked
          (l.imports x (ap is_passing (sym (push_other w.importers Unknown Unknown x (λ j. n (j ∙ importing)))) ∙ h)
          (ap (λ (o : Order). has w o.to (JournalEntry.Dropped x)) (sym (other x n)) ∙ k)))
    ];
    tells = λ x. elim (cases_eq x (length w.orders)) [
      | inl e ↦ ap (λ j. get_or (ns ++ false ∷ []) j false) (e ∙ sym places)
          ∙ (push_same ns false false
          ∙ sym (ap (λ (o : Order). has w o.to (JournalEntry.Dropped x)) (ap (order_in (with_export w from to dirs).orders) e ∙ here)
          ∙ fresh x e))
      | inr n ↦ push_other ns false false x (λ k. n (k ∙ places)) ∙ (l.tells x ∙ ap (λ (o : Order). has w o.to (JournalEntry.Dropped x)) (sym (other x n)))
    ];
    ranked = length-set ls from (get_or ls from [] ++ length w.orders ∷ []) ∙ l.ranked;
  }
    where
      exporting : length w.exporters ≡ length w.orders
      exporting = numbers_by w r (length w.exporters) (length w.orders) (λ safe. safe.exporting)

      importing : length w.importers ≡ length w.orders
      importing = numbers_by w r (length w.importers) (length w.orders) (λ safe. safe.importing)

      ranked : from < length ls
      ranked = rw l.ranked start_from_rank

      here : order_in (with_export w from to dirs).orders (length w.orders) ≡ record { from = from; to = to; dirs = dirs }
      here = push_same w.orders (record { from = from; to = to; dirs = dirs }) no_order

      other : (x : ℕ) → x ≢ length w.orders → order_in (with_export w from to dirs).orders x ≡ order_in w.orders x
      other x n = push_other w.orders (record { from = from; to = to; dirs = dirs }) no_order x n

      differ : false ≡ true → ⊥
      differ e = cc

      unknown : (x : ℕ) → x ≡ length w.orders → importer_of w x ≡ Unknown
      unknown x e = get_or_past w.importers x Unknown (omega (arith, importing))

      fresh : (x : ℕ) → x ≡ length w.orders → has w to (JournalEntry.Dropped x) ≡ false
      fresh x e = tests_by w r (has w to (JournalEntry.Dropped x)) false (λ safe. go safe (cases_Bool (has w to (JournalEntry.Dropped x))))
        where
          go : Safe w → (has w to (JournalEntry.Dropped x) ≡ true) ⊎ (has w to (JournalEntry.Dropped x) ≡ false) → has w to (JournalEntry.Dropped x) ≡ false
          go safe (inr f) = f
          go safe (inl t) = absurd (cc (sym (unknown x e) ∙ (safe.tables.dropped to x t).1))

  pub start_indexed : IsReached w → (i : Indexes) → IsIndexed w i →
      IsIndexed (with_export w from to dirs)
      (record i {
        opened = map_at (λ k old. cond (is_among dirs k) (Some (length w.orders)) old) i.opened;
        open_at = set i.open_at from (get_or i.open_at from [] ++ length w.orders ∷ []);
        dropped = i.dropped ++ false ∷ [];
      })
  start_indexed r i is = record {
    owners = λ d. options_by w r (get_or i.owners d None) (authority (with_export w from to dirs) d) (λ safe. is.owners d ∙ sym (started_authority safe d));
    opened = λ d. options_by w r (get_or (map_at (λ k old. cond (is_among dirs k) (Some (length w.orders)) old) i.opened) d None)
        (open_export (with_export w from to dirs) d)
        (λ safe. opened safe i.opened is.opened_places d (is.opened d));
    running = is.running;
    children = is.children;
    owner_places = is.owner_places;
    opened_places = map_at_length (λ k old. cond (is_among dirs k) (Some (length w.orders)) old) i.opened ∙ is.opened_places;
    running_places = is.running_places;
    children_places = is.children_places;
    unmarked = is.unmarked;
    requests = is.requests;
    listed = new_listed r i.open_at i.dropped is.listed is.dropped_places;
    dropped_places = length_push i.dropped false
        ∙ (ap (λ n. n + 1) is.dropped_places ∙ sym (length_push w.orders (record { from = from; to = to; dirs = dirs })));
  }
