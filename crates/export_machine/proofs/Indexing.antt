-- How the tables by directory follow each event.
use Rattle.std.proofs.Common.{◌≡◌, ◌≢◌, ℕ, ◌+◌, ◌-◌, ◌<◌, ◌≤◌, Bool, true, false, ◌&&◌, ◌||◌, not, eqb, cond, List, []}
use Rattle.std.proofs.Common.{◌∷◌, ◌++◌, length, get_or, set, Option, Some, None, refl, sym, ap, ◌∙◌, inl, inr, ◌⊎◌, arith}
use Rattle.std.specs.Prelude.{count_by, replicate}
use Rattle.std.proofs.lemmas.Bool.{cases_lt, and_parts, cases_Bool, cases_eq, eqb-true, not-true}
use Rattle.std.proofs.lemmas.List.{get_or-set_same, get_or-set_other, get_or_past, length-set}
use Rattle.export_protocol.specs.declared.exporter.ExporterState.{ExporterState}
use Rattle.export_protocol.specs.declared.journal.JournalEntry.{JournalEntry}
use Rattle.export_protocol.specs.declared.event.Request.{Request}
use Rattle.export_protocol.specs.declared.message.Message.{Message}
use Rattle.export_protocol.specs.declared.exporter.ExporterState.TheVariants.{Freezing, Preparing, Aborted}
use Rattle.export_protocol.specs.Cluster.{World}
use Rattle.mds_types.specs.declared.order.Order.{Order}
use Rattle.export_protocol.specs.Authority.{no_order, is_among, is_inside, to_of, exporter_of, importer_of, named_of, has}
use Rattle.export_protocol.specs.Authority.{is_same, authority, first_below, is_open, is_aborted, open_export, runs_on}
use Rattle.export_protocol.specs.Step.{running_on, map_at, exporter_to, journals, is_before_log, is_child}
use Rattle.export_protocol.specs.View.{IsReached}
use Rattle.export_machine.specs.Kept.{Indexes, IsIndexed, AreByRank, AreListed, count_at}
use Rattle.export_protocol.proofs.Owning.{is_over}
use Rattle.export_protocol.proofs.Views.{map_at_get, map_at_past, map_at_length, has_adds}
use Rattle.export_protocol.proofs.Safe.{Safe, phase_of}
use Rattle.export_protocol.proofs.Lookups.{itself, open_over, before_over, inside_there}
use Rattle.export_machine.proofs.Listed.{exporter_listed}
use Rattle.export_machine.proofs.ByRank.{begin_filed, end_filed}
use Rattle.export_machine.proofs.Counts.{running_begun, running_ended, runs_here}
use Rattle.export_protocol.proofs.Found.{orders_by, first_is_none, first_same, Safely, options_safely, orders_safely}

-- authorities and open exports stay, requests and parents too
pub same_indexed : (w v : World) (i : Indexes) → IsIndexed w i → ((d : ℕ) → authority v d ≡ authority w d) → ((d : ℕ) → open_export v d ≡ open_export w d) →
    v.tickets ≡ w.tickets → v.parents ≡ w.parents → v.ranks ≡ w.ranks → (ns : List Bool)
    → AreListed v.ranks v.orders v.exporters v.importers v.journals i.open_at ns → length ns ≡ length v.orders
    → IsIndexed v (record i { dropped = ns })
same_indexed w v i is a o t p n ns l c = record {
  owners = λ d. is.owners d ∙ sym (a d);
  opened = λ d. is.opened d ∙ sym (o d);
  running = λ d. is.running d ∙ sym (ap (λ ts. count_by (runs_on (d ∷ [])) ts) t);
  children = λ d. is.children d ∙ sym (ap (λ ps. count_at (is_child d) ps) p);
  owner_places = is.owner_places ∙ sym (ap length p);
  opened_places = is.opened_places ∙ sym (ap length p);
  running_places = is.running_places ∙ sym (ap length p);
  children_places = is.children_places ∙ sym (ap length p);
  unmarked = is.unmarked ∙ sym (ap (λ (ps : List (Option ℕ)). replicate (length ps) false) p);
  requests = rw (t, n) is.requests;
  listed = l;
  dropped_places = c;
}

-- only the tickets that are kept by rank change
pub refiled : (w : World) (i : Indexes) → IsIndexed w i → (ls : List (List ℕ)) → AreByRank w.ranks w.tickets ls → IsIndexed w (record i { tickets_at = ls })
refiled w i is ls by = record {
  owners = is.owners;
  opened = is.opened;
  running = is.running;
  children = is.children;
  owner_places = is.owner_places;
  opened_places = is.opened_places;
  running_places = is.running_places;
  children_places = is.children_places;
  unmarked = is.unmarked;
  requests = by;
  listed = is.listed;
  dropped_places = is.dropped_places;
}

-- only the exports that are listed by rank change
pub relisted : (w : World) (i : Indexes) → IsIndexed w i → (ls : List (List ℕ))
    → AreListed w.ranks w.orders w.exporters w.importers w.journals ls i.dropped → IsIndexed w (record i { open_at = ls })
relisted w i is ls l = record {
  owners = is.owners;
  opened = is.opened;
  running = is.running;
  children = is.children;
  owner_places = is.owner_places;
  opened_places = is.opened_places;
  running_places = is.running_places;
  children_places = is.children_places;
  unmarked = is.unmarked;
  requests = is.requests;
  listed = l;
  dropped_places = is.dropped_places;
}

-- which exports are open

pub open_stays : (w v : World) → v.orders ≡ w.orders → ((y : ℕ) → is_open v y ≡ is_open w y) → (d : ℕ) → open_export v d ≡ open_export w d
unfolding open_export
open_stays w v e h d =
    ap (λ n. first_below n (λ y. is_open v y && is_inside v y d)) (ap length e)
    ∙ first_same (length w.orders) (λ y. is_open v y && is_inside v y d) (λ y. is_open w y && is_inside w y d)
    (λ y l. rw (h y) (ap (λ (os : List Order). is_open w y && is_among (get_or os y no_order).dirs d) e))

aborted_same : (xs : List ExporterState) (x : ℕ) (s : ExporterState) → is_aborted (get_or xs x Aborted) ≡ is_aborted s →
    (y : ℕ) → is_aborted (get_or (set xs x s) y Aborted) ≡ is_aborted (get_or xs y Aborted)
aborted_same xs x s h y = elim (cases_eq y x) [
  | inr n ↦ ap is_aborted (get_or-set_other xs x y s Aborted n)
  | inl e ↦ rw e (elim (cases_lt x (length xs)) [
    | inl m ↦ ap is_aborted (get_or-set_same xs x s Aborted m) ∙ sym h
    | inr m ↦ ap is_aborted (get_or_past (set xs x s) x Aborted (rw (length-set xs x s) m)) ∙ sym (ap is_aborted (get_or_past xs x Aborted m))
  ])
]

-- an exporter's state changes that isn't about an abort
pub exporter_open : (w : World) (x : ℕ) (s : ExporterState) → is_aborted (exporter_of w x) ≡ is_aborted s → (d : ℕ)
    → open_export (exporter_to w x s) d ≡ open_export w d
exporter_open w x s h = open_stays w (exporter_to w x s) refl (λ y. rw (aborted_same w.exporters x s h y) refl)

pub entry_open : (w : World) (r : ℕ) (e : JournalEntry) → r < length w.journals → ((y : ℕ) → is_same e (JournalEntry.Imported y) ≡ false) →
    (d : ℕ) → open_export (journals w r e) d ≡ open_export w d
entry_open w r e near h = open_stays w (journals w r e) refl (λ y. go y)
  where
    none : (a b c : Bool) → c ≡ false → (a || (b && c)) ≡ a
    none a b c k = grind arith

    go : (y : ℕ) → is_open (journals w r e) y ≡ is_open w y
    go y = ap (λ b. not (is_aborted (exporter_of w y)) && not b)
        (has_adds w r e near (to_of w y) (JournalEntry.Imported y)
        ∙ none (has w (to_of w y) (JournalEntry.Imported y)) (eqb (to_of w y) r) (is_same e (JournalEntry.Imported y)) (h y))

-- marked tables

pub marked : (xs : List (Option ℕ)) (p : ℕ → Bool) (v : Option ℕ) (d : ℕ) → (p d ≡ true → d < length xs) →
    get_or (map_at (λ k old. cond (p k) v old) xs) d None ≡ cond (p d) v (get_or xs d None)
marked xs p v d near = elim (cases_lt d (length xs)) [
  | inl m ↦ map_at_get (λ k old. cond (p k) v old) xs d None None m
  | inr m ↦ map_at_past (λ k old. cond (p k) v old) xs d None m ∙ sym (past (p d) refl m)
]
  where
    past : (b : Bool) → p d ≡ b → length xs ≤ d → cond b v (get_or xs d None) ≡ None
    past true e m = absurd (let l : d < length xs = near e in omega arith)
    past false e m = get_or_past xs d None m

-- an export is over: its directories are in no open export
module _ (w v : World) (safe : Safe w) (x : ℕ) (was : is_over (phase_of w x) ≡ false) (orders : v.orders ≡ w.orders) (over : is_open v x ≡ false)
    (others : (y : ℕ) → y ≢ x → is_open v y ≡ is_open w y) where
  same_inside : (y d : ℕ) → is_inside v y d ≡ is_inside w y d
  same_inside y d = ap (λ (os : List Order). is_among (get_or os y no_order).dirs d) orders

  pub shut_inside : (d : ℕ) → is_inside w x d ≡ true → open_export v d ≡ None
  unfolding open_export
  shut_inside d i = first_is_none (length v.orders) (λ y. is_open v y && is_inside v y d) (λ y l. go y (cases_Bool (is_open v y && is_inside v y d)))
    where
      go : (y : ℕ) → ((is_open v y && is_inside v y d) ≡ true) ⊎ ((is_open v y && is_inside v y d) ≡ false) → (is_open v y && is_inside v y d) ≡ false
      go y (inr f) = f
      go y (inl t) =
          let p : (is_open v y ≡ true) × (is_inside v y d ≡ true) = and_parts (is_open v y) (is_inside v y d) t in
          elim (cases_eq y x) [
            | inl e ↦ absurd (cc (rw e at p.0, over))
            | inr n ↦
                (let o : is_over (phase_of w y) ≡ false = not-true (is_over (phase_of w y)) (sym (open_over w safe y) ∙ (sym (others y n) ∙ p.0)) in
                absurd (n (safe.owning.one_export y x d (sym (same_inside y d) ∙ p.1) i o was)))
          ]

  pub shut_outside : (d : ℕ) → is_inside w x d ≡ false → open_export v d ≡ open_export w d
  unfolding open_export
  shut_outside d i =
      ap (λ n. first_below n (λ y. is_open v y && is_inside v y d)) (ap length orders)
      ∙ first_same (length w.orders) (λ y. is_open v y && is_inside v y d) (λ y. is_open w y && is_inside w y d) (λ y l. go y)
    where
      none : (a b c : Bool) → c ≡ false → (a && c) ≡ (b && c)
      none a b c k = grind arith

      go : (y : ℕ) → (is_open v y && is_inside v y d) ≡ (is_open w y && is_inside w y d)
      go y = elim (cases_eq y x) [
        | inl e ↦ ap (λ b. is_open v y && b) (same_inside y d) ∙ none (is_open v y) (is_open w y) (is_inside w y d) (rw e i)
        | inr n ↦ rw (same_inside y d, others y n) refl
      ]

  pub shut_opened : (xs : List (Option ℕ)) → length xs ≡ length w.parents → (d : ℕ) → get_or xs d None ≡ open_export w d →
      get_or (map_at (λ k old. cond (is_inside w x k) None old) xs) d None ≡ open_export v d
  shut_opened xs h d e = marked xs (is_inside w x) None d (λ i. rw h (inside_there w safe x was d i)) ∙ go (is_inside w x d) refl
    where
      go : (b : Bool) → is_inside w x d ≡ b → cond b None (get_or xs d None) ≡ open_export v d
      go true i = sym (shut_inside d i)
      go false i = e ∙ sym (shut_outside d i)

-- Froze

pub froze_indexed : (w : World) (i : Indexes) (x : ℕ) → IsIndexed w i → exporter_of w x ≡ Freezing → (ms : List Message) →
    IsIndexed (record (exporter_to w x Preparing) { sent = ms }) i
unfolding authority
froze_indexed w i x is e ms = same_indexed w (record (exporter_to w x Preparing) { sent = ms }) i is (λ d. refl)
    (λ d. open_stays (exporter_to w x Preparing) (record (exporter_to w x Preparing) { sent = ms }) refl (λ y. refl) d
    ∙ exporter_open w x Preparing (rw e refl) d) refl refl refl i.dropped
    (exporter_listed w.ranks w.orders w.exporters w.importers w.journals i.open_at i.dropped is.listed x Preparing (λ k. rw e refl)) is.dropped_places

-- Abort

pub abort_there : (w : World) → Safely w → (x : ℕ) → is_before_log (exporter_of w x) ≡ true → (d : ℕ) → is_inside w x d ≡ true → d < length w.parents
abort_there w r x b d i = orders_safely w r d (length w.parents) (λ safe. inside_there w safe x (before_over (exporter_of w x) (importer_of w x) b) d i)

module _ (w : World) (x : ℕ) (near : x < length w.exporters) (ms : List Message) where
  abbrev pub aborted : World
  aborted = record (exporter_to w x Aborted) { sent = ms }

  aborted_over : is_open aborted x ≡ false
  aborted_over = rw (get_or-set_same w.exporters x Aborted Aborted near) refl

  aborted_others : (y : ℕ) → y ≢ x → is_open aborted y ≡ is_open w y
  aborted_others y n = rw (get_or-set_other w.exporters x y Aborted Aborted n) refl

  pub abort_indexed : Safely w → (i : Indexes) → IsIndexed w i → is_before_log (exporter_of w x) ≡ true →
      IsIndexed aborted (record i { opened = map_at (λ k old. cond (is_inside w x k) None old) i.opened })
  unfolding authority
  abort_indexed r i is b = record {
    owners = is.owners;
    opened = λ d. options_safely w r (get_or (map_at (λ k old. cond (is_inside w x k) None old) i.opened) d None) (open_export aborted d)
        (λ safe. shut_opened w aborted safe x (before_over (exporter_of w x) (importer_of w x) b) refl aborted_over aborted_others i.opened
        is.opened_places d (is.opened d));
    running = is.running;
    children = is.children;
    owner_places = is.owner_places;
    opened_places = map_at_length (λ k old. cond (is_inside w x k) None old) i.opened ∙ is.opened_places;
    running_places = is.running_places;
    children_places = is.children_places;
    unmarked = is.unmarked;
    requests = is.requests;
    listed = exporter_listed w.ranks w.orders w.exporters w.importers w.journals i.open_at i.dropped is.listed x Aborted (λ k. absurd (cc));
    dropped_places = is.dropped_places;
  }

-- Begin and End

here_now : (d : ℕ) → runs_here d d ≡ 1
here_now d = rw (itself d) refl

not_here : (d e : ℕ) → e ≢ d → runs_here e d ≡ 0
not_here d e n = go (eqb e d) refl
  where
    go : (b : Bool) → eqb e d ≡ b → cond {A = ℕ} (b || false) 1 0 ≡ 0
    go true h = absurd (n (eqb-true e d h))
    go false h = refl

pub begin_indexed : (w : World) (i : Indexes) (q : Request) → IsIndexed w i → q.dir < length w.parents → q.rank < length i.tickets_at
    → (ts : List (Option Request)) → ts ≡ w.tickets ++ Some q ∷ [] →
    IsIndexed (record w { tickets = ts })
    (record i {
      running = set i.running q.dir (get_or i.running q.dir 0 + 1);
      tickets_at = set i.tickets_at q.rank (get_or i.tickets_at q.rank [] ++ length w.tickets ∷ []);
    })
unfolding authority open_export
begin_indexed w i q is near ranked ts t = record {
  owners = is.owners;
  opened = is.opened;
  running = λ e. rw t (elim (cases_eq e q.dir) [
    | inl s ↦
        (let n : get_or (set i.running q.dir (get_or i.running q.dir 0 + 1)) q.dir 0
        ≡ get_or i.running q.dir 0 + 1 = get_or-set_same i.running q.dir (get_or i.running q.dir 0 + 1) 0 (rw is.running_places near) in
        rw (s, n, is.running q.dir) (sym (running_begun w q q.dir ∙ ap (λ m. running_on w (q.dir ∷ []) + m) (here_now q.dir))))
    | inr n ↦ get_or-set_other i.running q.dir e (get_or i.running q.dir 0 + 1) 0 n
        ∙ (is.running e ∙ sym (running_begun w q e
        ∙ (ap (λ m. running_on w (e ∷ []) + m) (not_here q.dir e n) ∙ plain (running_on w (e ∷ [])))))
  ]);
  children = is.children;
  owner_places = is.owner_places;
  opened_places = is.opened_places;
  running_places = length-set i.running q.dir (get_or i.running q.dir 0 + 1) ∙ is.running_places;
  children_places = is.children_places;
  unmarked = is.unmarked;
  requests = rw t (begin_filed w.ranks w.tickets i.tickets_at q is.requests ranked);
  listed = is.listed;
  dropped_places = is.dropped_places;
}
  where
    plain : (n : ℕ) → n + 0 ≡ n
    plain n = omega arith

pub end_runs : (w : World) (i : Indexes) (t : ℕ) (q : Request) → IsIndexed w i → get_or w.tickets t None ≡ Some q → 1 ≤ get_or i.running q.dir 0
end_runs w i t q is e =
    let a : count_by (runs_on (q.dir ∷ [])) (set w.tickets t None) + runs_here q.dir q.dir ≡ running_on w (q.dir ∷ []) = running_ended w t q q.dir e in
    let b : runs_here q.dir q.dir ≡ 1 = here_now q.dir in
    rw (is.running q.dir) (least (count_by (runs_on (q.dir ∷ [])) (set w.tickets t None)) (runs_here q.dir q.dir) (running_on w (q.dir ∷ [])) a b)
  where
    least : (m n k : ℕ) → m + n ≡ k → n ≡ 1 → 1 ≤ k
    least m n k e f = omega arith

pub end_indexed : (w : World) (i : Indexes) (t : ℕ) (q : Request) → IsIndexed w i → get_or w.tickets t None ≡ Some q → q.dir < length w.parents →
    IsIndexed (record w { tickets = set w.tickets t None }) (record i { running = set i.running q.dir (get_or i.running q.dir 0 - 1) })
unfolding authority open_export
end_indexed w i t q is e near = record {
  owners = is.owners;
  opened = is.opened;
  running = λ d. elim (cases_eq d q.dir) [
    | inl s ↦
        (let n : get_or (set i.running q.dir (get_or i.running q.dir 0 - 1)) q.dir 0
        ≡ get_or i.running q.dir 0 - 1 = get_or-set_same i.running q.dir (get_or i.running q.dir 0 - 1) 0 (rw is.running_places near) in
        rw (s, n, is.running q.dir)
        (less (count_by (runs_on (q.dir ∷ [])) (set w.tickets t None)) (runs_here q.dir q.dir) (running_on w (q.dir ∷ []))
        (running_ended w t q q.dir e) (here_now q.dir)))
    | inr n ↦ get_or-set_other i.running q.dir d (get_or i.running q.dir 0 - 1) 0 n
        ∙ (is.running d ∙ same (count_by (runs_on (d ∷ [])) (set w.tickets t None)) (runs_here d q.dir) (running_on w (d ∷ []))
        (running_ended w t q d e) (not_here q.dir d n))
  ];
  children = is.children;
  owner_places = is.owner_places;
  opened_places = is.opened_places;
  running_places = length-set i.running q.dir (get_or i.running q.dir 0 - 1) ∙ is.running_places;
  children_places = is.children_places;
  unmarked = is.unmarked;
  requests = end_filed w.ranks w.tickets i.tickets_at t is.requests;
  listed = is.listed;
  dropped_places = is.dropped_places;
}
  where
    less : (m n k : ℕ) → m + n ≡ k → n ≡ 1 → k - 1 ≡ m
    less m n k e f = omega arith

    same : (m n k : ℕ) → m + n ≡ k → n ≡ 0 → k ≡ m
    same m n k e f = omega arith

pub request_there : (w : World) → IsReached w → (t : ℕ) (q : Request) → get_or w.tickets t None ≡ Some q → q.dir < length w.parents
request_there w r t q e = orders_by w r q.dir (length w.parents)
    (λ safe. there w safe q.dir q.rank (safe.owning.owner_named q.rank q.dir (safe.running.stands t q e)))
  where
    there : (v : World) → Safe v → (d s : ℕ) → named_of v d ≡ Some s → d < length v.parents
    there v safe d s k = elim (cases_lt d (length v.parents)) [
      | inl m ↦ m
      | inr m ↦ absurd (differ (sym (get_or_past v.named d None (omega (arith, safe.numbered))) ∙ k))
    ]
      where
        differ : None ≡ Some s → ⊥
        differ f = cc
