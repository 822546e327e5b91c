-- Each accepted event keeps the invariant.
use Rattle.std.proofs.Common.{◌≡◌, ◌≢◌, ℕ, zero, suc, ◌+◌, ◌<◌, Bool, true, false, ◌&&◌, ◌||◌, not, eqb, cond, List, []}
use Rattle.std.proofs.Common.{◌∷◌, ◌++◌, length, get_or, set, Option, Some, None, refl, sym, ap, ◌∙◌, inl, inr, ◌⊎◌, arith}
use Rattle.std.specs.Option.{is_some}
use Rattle.std.specs.List.{slice_get, list_all}
use Rattle.export_protocol.specs.declared.exporter.ExporterState.{ExporterState}
use Rattle.export_protocol.specs.declared.importer.ImporterState.{ImporterState}
use Rattle.export_protocol.specs.declared.journal.JournalEntry.{JournalEntry}
use Rattle.export_protocol.specs.declared.event.Request.{Request}
use Rattle.export_protocol.specs.Cluster.{World}
use Rattle.mds_types.specs.declared.order.Order.{Order}
use Rattle.export_protocol.specs.declared.exporter.ExporterState.TheVariants.{Discovering, Freezing, Preparing, Logged, Done, Aborted}
use Rattle.export_protocol.specs.declared.importer.ImporterState.TheVariants.{Unknown}
use Rattle.export_protocol.specs.declared.message.Message.TheVariants.{Discover, Prep, Query}
use Rattle.export_protocol.specs.Authority.{order_in, no_order, is_among, is_inside, from_of, to_of, exporter_of, importer_of, journal_of}
use Rattle.export_protocol.specs.Authority.{named_of, is_present, request_of, is_same, has_entry, has, owned_by, owned_after, owns}
use Rattle.export_protocol.specs.Authority.{is_taking_over, IsAuthority, authority, is_holding, is_held_in, open_export, frozen_by, runs_on}
use Rattle.export_protocol.specs.declared.event.Event.{Event}
use Rattle.export_protocol.specs.declared.step_error.StepError.{StepError}
use Rattle.export_protocol.specs.Step.{first, when, is_freezing, is_logged, not_yet, running_on, busy}
use Rattle.export_protocol.specs.Step.{held, held_at, elsewhere, not_served, authority_stopped, cannot_leave, least_fault}
use Rattle.export_protocol.specs.Step.{causes, happens, exporter_to, journals, names_importer}
use Rattle.export_protocol.specs.declared.event.Event.TheVariants.{Begin, End, Start, Deliver, Froze, Notify, Abort, Ask}
use Rattle.export_protocol.proofs.Owning.{Phase, Owning, Running, is_moving, is_over, place, same_owning}
use Rattle.export_protocol.proofs.Owning.{same_running, start_owning, start_running, made_owning, made_running, gone_owning, gone_running}
use Rattle.export_protocol.proofs.Owning.Phase.{Early, Held, Moving, Told, Over}
use Rattle.export_protocol.proofs.Tables.{is_committed, is_imported, kept_flag, entry_tables, begun_tables}
use Rattle.export_protocol.proofs.Views.{push_same, push_other, push_get, length_push, has_adds, owns_at, owns_other}
use Rattle.export_protocol.proofs.Safe.{Safe, phase_by, phase_of, plain_safe, finish_safe, cancel_safe, froze_safe, aborted_safe, notify_safe}
use Rattle.export_protocol.proofs.Lookups.{first_none, or_else_none, itself, inside_near, authority_is, no_open, free_owner}
use Rattle.export_protocol.proofs.Deliver.{deliver_keeps}
use Rattle.std.proofs.lemmas.List.{get_or-set_same, get_or-set_other, get_or_past, length-set}
use Rattle.std.proofs.lemmas.Bool.{cases_lt, and_parts, cases_Bool, cases_eq, eqb-false, eqb-true, leb-false, not-false, or_cases, or_parts}
use Rattle.std.proofs.lemmas.List.Recursion.{is_count_by}

-- refusals that did not come

pub not_refused : (b : Bool) (r : StepError) → when b r ≡ None → b ≡ false
not_refused true r h = absurd (cc)
not_refused false r h = refl

abbrev pub NoneOf : List (Option StepError) → Type 0
NoneOf [] = Unit {0}
NoneOf (o ∷ os) = (o ≡ None) × NoneOf os

pub none_of : (os : List (Option StepError)) → first os ≡ None → NoneOf os
none_of [] h = tt
none_of (o ∷ os) h = ((or_else_none o (first os) h).0, none_of os (or_else_none o (first os) h).1)

unequal : (m n : ℕ) → n ≢ m → eqb m n ≡ false
unequal m n h = grind arith

pub freezing_is : (e : ExporterState) → is_freezing e ≡ true → e ≡ Freezing
freezing_is e h = grind arith

pub logged_is : (e : ExporterState) → is_logged e ≡ true → e ≡ Logged
logged_is e h = grind arith

abbrev pub number_of : (Option Request → Bool) → List (Option Request) → ℕ
number_of p [] = 0
number_of p (t ∷ ts) = cond (p t) (1 + number_of p ts) (number_of p ts)

uncounted : (b : Bool) (n : ℕ) → cond b (1 + n) n ≡ 0 → (b ≡ false) × (n ≡ 0)
uncounted b n i = (grind arith, grind arith)

none_run : (dirs : List ℕ) (tickets : List (Option Request)) → number_of (runs_on dirs) tickets ≡ 0 →
    (t : ℕ) (q : Request) → get_or tickets t None ≡ Some q → is_among dirs q.dir ≡ false
none_run dirs [] h t q e = absurd (cc)
none_run dirs (r ∷ ts) h zero q e = rw e at (uncounted (runs_on dirs r) (number_of (runs_on dirs) ts) h).0
none_run dirs (r ∷ ts) h (suc t) q e = none_run dirs ts (uncounted (runs_on dirs r) (number_of (runs_on dirs) ts) h).1 t q e

pub no_requests : (w : World) (dirs : List ℕ) → not_yet (running_on w dirs) ≡ None → (t : ℕ) (q : Request) → request_of w t ≡ Some q
    → is_among dirs q.dir ≡ false
no_requests w dirs h =
    let n : running_on w dirs ≡ 0 = eqb-true (running_on w dirs) 0
    (not-false (eqb (running_on w dirs) 0) (not_refused (not (eqb (running_on w dirs) 0)) (StepError.NotYet (running_on w dirs)) h)) in
    none_run dirs w.tickets (is_count_by (number_of (runs_on dirs)) (runs_on dirs) refl (λ x xs. refl) w.tickets ∙ n)

module _ (w : World) (safe : Safe w) where
  pub froze_keeps : (x : ℕ) → NoneOf (causes w (Froze x)) → Safe (happens w (Froze x)).world
  unfolding causes happens
  froze_keeps x h =
      let n : x < length w.orders = leb-false (length w.orders) x (not_refused _ _ h.0) in
      let f : exporter_of w x ≡ Freezing = freezing_is (exporter_of w x) (not-false _ (not_refused _ _ h.1.1.0)) in
      plain_safe (exporter_to w x Preparing)
      (froze_safe w safe x Preparing (omega (arith, safe.exporting)) f refl (no_requests w (order_in w.orders x).dirs h.1.1.1.0))
      (Prep x) refl n

  pub notify_keeps : (x : ℕ) → NoneOf (causes w (Notify x)) → Safe (happens w (Notify x)).world
  unfolding causes happens
  notify_keeps x h =
      let n : x < length w.orders = leb-false (length w.orders) x (not_refused _ _ h.0) in
      let f : exporter_of w x ≡ Logged = logged_is (exporter_of w x) (not-false _ (not_refused _ _ h.1.1.0)) in
      let near : x < length w.exporters = omega (arith, safe.exporting) in
      finish_safe (names_importer (journals (exporter_to w x Done) (from_of w x) (JournalEntry.Notified x)) x) (notify_safe w safe x f) x
      (get_or-set_same w.exporters x Done Aborted near) n

  pub abort_keeps : (x : ℕ) → NoneOf (causes w (Abort x)) → Safe (happens w (Abort x)).world
  unfolding causes happens
  abort_keeps x h =
      let n : x < length w.orders = leb-false (length w.orders) x (not_refused _ _ h.0) in
      let near : x < length w.exporters = omega (arith, safe.exporting) in
      cancel_safe (exporter_to w x Aborted) (aborted_safe w safe x Aborted near (not-false _ (not_refused _ _ h.1.1.0)) refl) x
      (get_or-set_same w.exporters x Aborted Aborted near) n

  pub ask_keeps : (x : ℕ) → NoneOf (causes w (Ask x)) → Safe (happens w (Ask x)).world
  unfolding causes happens
  ask_keeps x h = plain_safe w safe (Query x) refl (leb-false (length w.orders) x (not_refused _ _ h.0))

  pub delivered_keeps : (k : ℕ) → Safe (happens w (Deliver k)).world
  unfolding happens
  delivered_keeps k = deliver_keeps w safe k (slice_get w.sent k) refl

  -- a request that ends
  pub end_keeps : (t : ℕ) → Safe (happens w (End t)).world
  unfolding happens
  end_keeps t = record {
    tables = safe.tables;
    owning = safe.owning;
    running = record {
      stands = λ u q h. safe.running.stands u q (ran u q h);
      early = λ u q x h k l. safe.running.early u q x (ran u q h) k l;
    };
    present = safe.present;
    numbered = safe.numbered;
    exporting = safe.exporting;
    importing = safe.importing;
    ranked = safe.ranked;
    all_ranks = safe.all_ranks;
  }
    where
      ran : (u : ℕ) (q : Request) → get_or (set w.tickets t None) u None ≡ Some q → request_of w u ≡ Some q
      ran u q h = elim (cases_eq u t) [
        | inl e ↦ elim (cases_lt t (length w.tickets)) [
          | inl m ↦ absurd (cc (get_or-set_same w.tickets t None None m, h, e))
          | inr m ↦ absurd (cc (get_or_past (set w.tickets t None) t None (rw (length-set w.tickets t None) m), h, e))
        ]
        | inr n ↦ sym (get_or-set_other w.tickets t u None None n) ∙ h
      ]

-- A request begins.

held_none : (o : Option ℕ) → held o ≡ None → o ≡ None
held_none None h = refl
held_none (Some x) h = absurd (cc)

pub busy_none : (o : Option ℕ) → busy o ≡ None → o ≡ None
busy_none None h = refl
busy_none (Some x) h = absurd (cc)

pub served : (w : World) (r d : ℕ) (o : Option ℕ) → not_served w r d o ≡ None → (o ≡ Some r) × (frozen_by w r d ≡ None)
served w r d None h = absurd (cc)
served w r d (Some a) h = go (eqb a r) refl h
  where
    go : (b : Bool) → eqb a r ≡ b → cond b (held (frozen_by w r d)) (Some (StepError.Elsewhere a)) ≡ None → (Some a ≡ Some r) × (frozen_by w r d ≡ None)
    go true e k = (ap Some (eqb-true a r e), held_none (frozen_by w r d) k)
    go false e k = absurd (cc)

early_or_held : (p : Phase) → is_over p ≡ false → is_moving p ≡ false → (p ≡ Early) ⊎ (p ≡ Held)
early_or_held Early h k = inl refl
early_or_held Held h k = inr refl
early_or_held Moving h k = absurd (cc)
early_or_held Told h k = absurd (cc)
early_or_held Over h k = absurd (cc)

held_holding : (e : ExporterState) (i : ImporterState) → phase_by e i ≡ Held → is_holding e ≡ true
held_holding e i h = grind arith

not_frozen : (w : World) (r d : ℕ) → frozen_by w r d ≡ None → (x : ℕ) → is_inside w x d ≡ true → (is_held_in w r d x ≡ false) × (is_taking_over w r x ≡ false)
unfolding frozen_by
not_frozen w r d h x i =
    let f : (is_held_in w r d x || (is_taking_over w r x && is_inside w x d)) ≡ false =
    first_none (length w.orders) (λ y. is_held_in w r d y || (is_taking_over w r y && is_inside w y d)) h x (inside_near w x d i) in
    parts (is_held_in w r d x) (is_taking_over w r x) (is_inside w x d) i f
  where
    parts : (a b c : Bool) → c ≡ true → (a || (b && c)) ≡ false → (a ≡ false) × (b ≡ false)
    parts a b c k l = (grind arith, grind arith)

-- who is the authority and isn't frozen owns, and the open exports of the directory are early
module _ (w : World) (safe : Safe w) (r d : ℕ) (authority_r : IsAuthority w r d) (free : frozen_by w r d ≡ None) where
  begin_owns : owns w r d ≡ true
  begin_owns = go authority_r
    where
      go : IsAuthority w r d → owns w r d ≡ true
      go (inl o) = o
      go (inr t) = absurd (cc ((not_frozen w r d free t.0 t.2).1, t.1))

  begin_early : (x : ℕ) → is_inside w x d ≡ true → is_over (phase_of w x) ≡ false → phase_of w x ≡ Early
  begin_early x i h = elim (cases_Bool (is_moving (phase_of w x))) [
    | inl m ↦ absurd (cc (safe.owning.moving x r d i m, begin_owns))
    | inr n ↦ elim (early_or_held (phase_of w x) h n) [
      | inl e ↦ e
      | inr e ↦
          (let placed : named_of w d ≡ Some (place (from_of w x) (to_of w x) Held) = rw e at (safe.owning.placed x d i h) in
          let f : from_of w x ≡ r = some_same (from_of w x) r (sym placed ∙ safe.owning.owner_named r d begin_owns) in
          let k : is_held_in w r d x ≡ true = rw (f, itself r, held_holding (exporter_of w x) (importer_of w x) e, i) refl in
          absurd (cc ((not_frozen w r d free x i).0, k)))
    ]
  ]
    where
      some_same : (a b : ℕ) → Some a ≡ Some b → a ≡ b
      some_same a b e = cc

module _ (w : World) (safe : Safe w) where
  pub begin_keeps : (rank d : ℕ) → NoneOf (causes w (Begin rank d)) → Safe (happens w (Begin rank d)).world
  unfolding causes happens
  begin_keeps rank d h =
      let s : (authority w d ≡ Some rank) × (frozen_by w rank d ≡ None) = served w rank d (authority w d) h.1.1.1.0 in
      let a : IsAuthority w rank d = (authority_is w d rank s.0).1 in
      record {
        tables = safe.tables;
        owning = safe.owning;
        running = record {
          stands = λ u q k. elim (ran u q k) [ inl o ↦ safe.running.stands u q o | inr e ↦ rw e (begin_owns w safe rank d a s.1) ];
          early = λ u q x k i l. elim (ran u q k) [ inl o ↦ safe.running.early u q x o i l | inr e ↦ begin_early w safe rank d a s.1 x (rw e at i) l ];
        };
        present = safe.present;
        numbered = safe.numbered;
        exporting = safe.exporting;
        importing = safe.importing;
        ranked = safe.ranked;
        all_ranks = safe.all_ranks;
      }
    where
      some_same : (p q : Request) → Some p ≡ Some q → q ≡ p
      some_same p q e = cc

      ran : (u : ℕ) (q : Request) → get_or (w.tickets ++ Some (record { rank = rank; dir = d }) ∷ []) u None ≡ Some q →
          (request_of w u ≡ Some q) ⊎ (q ≡ record { rank = rank; dir = d })
      ran u q k = elim (cases_eq u (length w.tickets)) [
        | inl e ↦ inr (some_same (record { rank = rank; dir = d }) q (sym (push_same w.tickets (Some (record { rank = rank; dir = d })) None) ∙ rw e at k))
        | inr n ↦ inl (sym (push_other w.tickets (Some (record { rank = rank; dir = d })) None u n) ∙ k)
      ]

-- A directory is made.

pub held_free : (w : World) (d : ℕ) (o : Option ℕ) → held_at w d o ≡ None → (a : ℕ) × (o ≡ Some a) × (frozen_by w a d ≡ None)
held_free w d None h = absurd (cc)
held_free w d (Some a) h = (a, refl, held_none (frozen_by w a d) h)

module _ (w : World) (safe : Safe w) (a p : ℕ) (near : a < length w.journals) where
  made_was : named_of w (length w.parents) ≡ None
  made_was = get_or_past w.named (length w.parents) None (omega (arith, safe.numbered))

  made_is : get_or (w.named ++ Some a ∷ []) (length w.parents) None ≡ Some a
  made_is = rw safe.numbered (push_same w.named (Some a) None)

  made_others : (d : ℕ) → d ≢ length w.parents → get_or (w.named ++ Some a ∷ []) d None ≡ named_of w d
  made_others d n = push_other w.named (Some a) None d (λ e. n (e ∙ sym safe.numbered))

  made_present : (d : ℕ) → is_some (get_or (w.parents ++ Some p ∷ []) d None) ≡ is_some (get_or (w.named ++ Some a ∷ []) d None)
  made_present d = elim (cases_eq d (length w.parents)) [
    | inl e ↦ rw (e, made_is, push_same w.parents (Some p) None) refl
    | inr n ↦ rw (made_others d n, push_other w.parents (Some p) None d n) (safe.present d)
  ]

  pub made_won : owns (journals w a (JournalEntry.Made (length w.parents))) a (length w.parents) ≡ true
  made_won = rw (owns_at w a (JournalEntry.Made (length w.parents)) near (length w.parents), itself (length w.parents)) refl

  pub made_rest : (r d : ℕ) → d ≢ length w.parents → owns (journals w a (JournalEntry.Made (length w.parents))) r d ≡ owns w r d
  made_rest r d n = elim (cases_eq r a) [
    | inl e ↦ rw (e, owns_at w a (JournalEntry.Made (length w.parents)) near d, unequal (length w.parents) d n) refl
    | inr m ↦ owns_other w a (JournalEntry.Made (length w.parents)) near r d m
  ]

  made_flag : (r : ℕ) (f : JournalEntry) → is_same (JournalEntry.Made (length w.parents)) f ≡ false
      → has (journals w a (JournalEntry.Made (length w.parents))) r f ≡ has w r f
  made_flag r f e = rw (has_adds w a (JournalEntry.Made (length w.parents)) near r f, e) (kept_flag (has w r f) (eqb r a))

  pub made_safe : Safe (record (journals w a (JournalEntry.Made (length w.parents))) { parents = w.parents ++ Some p ∷ []; named = w.named ++ Some a ∷ [] })
  made_safe = record {
    tables = entry_tables _ _ _ _ _ _ _ safe.tables (has (journals w a (JournalEntry.Made (length w.parents))))
        (λ r x. made_flag r (JournalEntry.Exported x) refl) (λ r x. made_flag r (JournalEntry.Notified x) refl)
        (λ r x. made_flag r (JournalEntry.Imported x) refl)
        (λ r x. made_flag r (JournalEntry.Started x) refl) (λ r x. made_flag r (JournalEntry.Dropped x) refl);
    owning = made_owning _ _ _ _ _ _ _ _ _ a (length w.parents) safe.owning safe.running made_was made_is made_others made_won
        (λ r d m. owns_other w a (JournalEntry.Made (length w.parents)) near r d m) made_rest;
    running = made_running (is_inside w) (from_of w) (to_of w) _ _ _ _ _ _ a (length w.parents) safe.owning safe.running made_was made_is made_others made_won
        (λ r d m. owns_other w a (JournalEntry.Made (length w.parents)) near r d m) made_rest;
    present = made_present;
    numbered = length_push w.parents (Some p) ∙ (ap (λ n. n + 1) safe.numbered ∙ sym (length_push w.named (Some a)));
    exporting = safe.exporting;
    importing = safe.importing;
    ranked = λ y h. rw (length-set w.journals a) (safe.ranked y h);
    all_ranks = rw (length-set w.journals a) safe.all_ranks;
  }

module _ (w : World) (safe : Safe w) where
  pub made_keeps : (p : ℕ) → NoneOf (causes w (Event.Made p)) → Safe (happens w (Event.Made p)).world
  unfolding causes happens
  made_keeps p h =
      let s : (a : ℕ) × (authority w p ≡ Some a) × (frozen_by w a p ≡ None) = held_free w p (authority w p) h.1.1.0 in
      rw s.1 (made_safe w safe s.0 p (rw safe.all_ranks (authority_is w p s.0 s.1).0))

-- A directory goes.

pub not_stopped : (w : World) (o : Option ℕ) → authority_stopped w o ≡ None → (a : ℕ) × (o ≡ Some a)
not_stopped w None h = absurd (cc)
not_stopped w (Some a) h = (a, refl)

pub elsewhere_dir : (d e : ℕ) → is_among (d ∷ []) e ≡ false → e ≢ d
elsewhere_dir d e h k = absurd (go (eqb d e) h (rw k (itself d)))
  where
    go : (b : Bool) → (b || false) ≡ false → b ≡ true → ⊥
    go b i j = grind arith

pub set_none : {A : Type 0} (xs : List (Option A)) (k : ℕ) → get_or (set xs k None) k None ≡ None
set_none xs k = elim (cases_lt k (length xs)) [
  | inl m ↦ get_or-set_same xs k None None m
  | inr m ↦ get_or_past (set xs k None) k None (rw (length-set xs k None) m)
]

module _ (w : World) (safe : Safe w) (a c : ℕ) (near : a < length w.journals) (owned : owns w a c ≡ true)
    (free : (x : ℕ) → is_inside w x c ≡ true → is_over (phase_of w x) ≡ true)
    (ended : (t : ℕ) (q : Request) → request_of w t ≡ Some q → q.dir ≢ c) where
  gone_others : (d : ℕ) → d ≢ c → get_or (set w.named c None) d None ≡ named_of w d
  gone_others d n = get_or-set_other w.named c d None None n

  gone_present : (d : ℕ) → is_some (get_or (set w.parents c None) d None) ≡ is_some (get_or (set w.named c None) d None)
  gone_present d = elim (cases_eq d c) [
    | inl e ↦ rw (e, set_none w.parents c, set_none w.named c) refl
    | inr n ↦ rw (gone_others d n, get_or-set_other w.parents c d None None n) (safe.present d)
  ]

  gone_lost : owns (journals w a (JournalEntry.Gone c)) a c ≡ false
  gone_lost = rw (owns_at w a (JournalEntry.Gone c) near c, itself c) refl

  pub gone_rest : (r d : ℕ) → d ≢ c → owns (journals w a (JournalEntry.Gone c)) r d ≡ owns w r d
  gone_rest r d n = elim (cases_eq r a) [
    | inl e ↦ rw (e, owns_at w a (JournalEntry.Gone c) near d, unequal c d n) refl
    | inr m ↦ owns_other w a (JournalEntry.Gone c) near r d m
  ]

  gone_flag : (r : ℕ) (f : JournalEntry) → is_same (JournalEntry.Gone c) f ≡ false → has (journals w a (JournalEntry.Gone c)) r f ≡ has w r f
  gone_flag r f e = rw (has_adds w a (JournalEntry.Gone c) near r f, e) (kept_flag (has w r f) (eqb r a))

  pub gone_safe : Safe (record (journals w a (JournalEntry.Gone c)) { parents = set w.parents c None; named = set w.named c None })
  gone_safe = record {
    tables = entry_tables _ _ _ _ _ _ _ safe.tables (has (journals w a (JournalEntry.Gone c)))
        (λ r x. gone_flag r (JournalEntry.Exported x) refl) (λ r x. gone_flag r (JournalEntry.Notified x) refl)
        (λ r x. gone_flag r (JournalEntry.Imported x) refl)
        (λ r x. gone_flag r (JournalEntry.Started x) refl) (λ r x. gone_flag r (JournalEntry.Dropped x) refl);
    owning = gone_owning _ _ _ _ _ _ _ _ _ a c safe.owning safe.running free ended (safe.owning.owner_named a c owned) (set_none w.named c)
        gone_others gone_lost
        (λ r d m. owns_other w a (JournalEntry.Gone c) near r d m) gone_rest;
    running = gone_running (is_inside w) (from_of w) (to_of w) _ _ _ _ _ _ a c safe.owning safe.running free ended
        (safe.owning.owner_named a c owned) (set_none w.named c) gone_others gone_lost
        (λ r d m. owns_other w a (JournalEntry.Gone c) near r d m) gone_rest;
    present = gone_present;
    numbered = length-set w.parents c None ∙ (safe.numbered ∙ sym (length-set w.named c None));
    exporting = safe.exporting;
    importing = safe.importing;
    ranked = λ y h. rw (length-set w.journals a) (safe.ranked y h);
    all_ranks = rw (length-set w.journals a) safe.all_ranks;
  }

module _ (w : World) (safe : Safe w) where
  pub gone_keeps : (d : ℕ) → NoneOf (causes w (Event.Gone d)) → Safe (happens w (Event.Gone d)).world
  unfolding causes happens
  gone_keeps d h =
      let o : open_export w d ≡ None = busy_none (open_export w d) h.1.1.1.0 in
      let s : (a : ℕ) × (authority w d ≡ Some a) = not_stopped w (authority w d) h.1.1.1.1.1.0 in
      let k : (s.0 < w.ranks) × IsAuthority w s.0 d = authority_is w d s.0 s.1 in
      let ended : (t : ℕ) (q : Request) → request_of w t ≡ Some q → q.dir ≢ d = λ t q e. elsewhere_dir d q.dir (no_requests w (d ∷ []) h.1.1.1.1.0 t q e) in
      rw s.1 (gone_safe w safe s.0 d (rw safe.all_ranks k.0) (free_owner w safe s.0 d k.1 (no_open w safe d o)) (no_open w safe d o) ended)

-- An export begins.

pub is_here : (r : ℕ) (o : Option ℕ) → elsewhere r o ≡ None → o ≡ Some r
is_here r None h = absurd (cc)
is_here r (Some a) h = ap Some (eqb-true a r (not-false (eqb a r) (not_refused (not (eqb a r)) (StepError.Elsewhere a) h)))

pub least_none : (w : World) (from : ℕ) (dirs : List ℕ) (n : ℕ) → least_fault w from dirs n ≡ None → (d : ℕ) → d < n
    → is_among dirs d ≡ true → cannot_leave w from d ≡ None
least_none w from dirs zero h d l i = absurd (omega arith)
least_none w from dirs (suc n) h d l i = elim (cases_lt d n) [
  | inl m ↦ least_none w from dirs n (or_else_none (least_fault w from dirs n) (cond (is_among dirs n) (cannot_leave w from n) None) h).0 d m i
  | inr m ↦
      (let e : d ≡ n = omega arith in
      rw e (fault (is_among dirs n) (cannot_leave w from n) (rw e at i)
      (or_else_none (least_fault w from dirs n) (cond (is_among dirs n) (cannot_leave w from n) None) h).1))
]
  where
    fault : (b : Bool) (o : Option StepError) → b ≡ true → cond b o None ≡ None → o ≡ None
    fault true o j k = k
    fault false o j k = absurd (cc)

pub all_there : (w : World) (dirs : List ℕ) → list_all (is_present w) dirs ≡ true → (d : ℕ) → is_among dirs d ≡ true → is_present w d ≡ true
all_there w [] h d i = absurd (cc)
all_there w (c ∷ cs) h d i = elim (or_cases (eqb c d) (is_among cs d) i) [
  | inl e ↦ rw (← eqb-true c d e) (and_parts (is_present w c) (list_all (is_present w) cs) h).0
  | inr j ↦ all_there w cs (and_parts (is_present w c) (list_all (is_present w) cs) h).1 d j
]

pub there_near : (w : World) (d : ℕ) → is_present w d ≡ true → d < length w.parents
there_near w d h = elim (cases_lt d (length w.parents)) [
  | inl m ↦ m
  | inr m ↦ absurd (cc (rw (get_or_past w.parents d None m) at h))
]

-- the owners don't change when an export is added that no journal names
owned_more : (orders : List Order) (o : Order) (d : ℕ) (owned : Bool) (e : JournalEntry) →
    is_same e (JournalEntry.Exported (length orders)) ≡ false → is_same e (JournalEntry.Imported (length orders)) ≡ false →
    owned_after (orders ++ o ∷ []) d owned e ≡ owned_after orders d owned e
owned_more orders o d owned (JournalEntry.Made c) h k = refl
owned_more orders o d owned (JournalEntry.Gone c) h k = refl
owned_more orders o d owned (JournalEntry.Started x) h k = refl
owned_more orders o d owned (JournalEntry.Notified x) h k = refl
owned_more orders o d owned (JournalEntry.Dropped x) h k = refl
owned_more orders o d owned (JournalEntry.Exported x) h k = rw (push_other orders o no_order x (eqb-false x (length orders) h)) refl
owned_more orders o d owned (JournalEntry.Imported x) h k = rw (push_other orders o no_order x (eqb-false x (length orders) k)) refl

owned_by_more : (orders : List Order) (o : Order) (d : ℕ) (owned : Bool) (journal : List JournalEntry) →
    has_entry journal (JournalEntry.Exported (length orders)) ≡ false → has_entry journal (JournalEntry.Imported (length orders)) ≡ false →
    owned_by (orders ++ o ∷ []) d owned journal ≡ owned_by orders d owned journal
owned_by_more orders o d owned [] h k = refl
owned_by_more orders o d owned (e ∷ es) h k =
    let a : (is_same e (JournalEntry.Exported (length orders)) ≡ false) × (has_entry es (JournalEntry.Exported (length orders)) ≡ false) = or_parts _ _ h in
    let b : (is_same e (JournalEntry.Imported (length orders)) ≡ false) × (has_entry es (JournalEntry.Imported (length orders)) ≡ false) = or_parts _ _ k in
    rw (owned_more orders o d owned e a.0 b.0) (owned_by_more orders o d (owned_after orders d owned e) es a.1 b.1)

abbrev pub with_export : World → ℕ → ℕ → List ℕ → World
with_export w from to dirs = record w {
  orders = w.orders ++ record { from = from; to = to; dirs = dirs } ∷ [];
  exporters = w.exporters ++ Discovering ∷ [];
  importers = w.importers ++ Unknown ∷ [];
  sent = w.sent ++ Discover (length w.orders) ∷ [];
}

module _ (w : World) (safe : Safe w) (from to : ℕ) (dirs : List ℕ) (from_near : from < length w.journals) (to_near : to < length w.journals)
    (owned : (d : ℕ) → is_among dirs d ≡ true → owns w from d ≡ true)
    (free : (x d : ℕ) → is_among dirs d ≡ true → is_inside w x d ≡ true → is_over (phase_of w x) ≡ true) where
  start_order : order_in (w.orders ++ record { from = from; to = to; dirs = dirs } ∷ []) (length w.orders) ≡ record { from = from; to = to; dirs = dirs }
  start_order = push_same w.orders (record { from = from; to = to; dirs = dirs }) no_order

  start_orders : (y : ℕ) → y ≢ length w.orders → order_in (w.orders ++ record { from = from; to = to; dirs = dirs } ∷ []) y ≡ order_in w.orders y
  start_orders y n = push_other w.orders (record { from = from; to = to; dirs = dirs }) no_order y n

  start_from : from_of (with_export w from to dirs) (length w.orders) ≡ from
  start_from = ap (λ (o : Order). o.from) start_order

  start_to : to_of (with_export w from to dirs) (length w.orders) ≡ to
  start_to = ap (λ (o : Order). o.to) start_order

  start_inside : (d : ℕ) → is_inside (with_export w from to dirs) (length w.orders) d ≡ is_among dirs d
  start_inside d = ap (λ (o : Order). is_among o.dirs d) start_order

  start_froms : (y : ℕ) → y ≢ length w.orders → from_of (with_export w from to dirs) y ≡ from_of w y
  start_froms y n = ap (λ (o : Order). o.from) (start_orders y n)

  pub start_tos : (y : ℕ) → y ≢ length w.orders → to_of (with_export w from to dirs) y ≡ to_of w y
  start_tos y n = ap (λ (o : Order). o.to) (start_orders y n)

  pub start_insides : (y d : ℕ) → y ≢ length w.orders → is_inside (with_export w from to dirs) y d ≡ is_inside w y d
  start_insides y d n = ap (λ (o : Order). is_among o.dirs d) (start_orders y n)

  start_state : exporter_of (with_export w from to dirs) (length w.orders) ≡ Discovering
  start_state = rw (← safe.exporting) (push_same w.exporters Discovering Aborted)

  start_states : (y : ℕ) → y ≢ length w.orders → exporter_of (with_export w from to dirs) y ≡ exporter_of w y
  start_states y n = push_other w.exporters Discovering Aborted y (λ e. n (e ∙ safe.exporting))

  start_importers : (y : ℕ) → importer_of (with_export w from to dirs) y ≡ importer_of w y
  start_importers y = elim (cases_eq y (length w.importers)) [
    | inl e ↦ rw (e, get_or_past w.importers (length w.importers) Unknown (omega arith)) (push_same w.importers Unknown Unknown)
    | inr n ↦ push_other w.importers Unknown Unknown y n
  ]

  pub start_phases : (y : ℕ) → y ≢ length w.orders → phase_of (with_export w from to dirs) y ≡ phase_of w y
  start_phases y n = rw (start_states y n, start_importers y) refl

  pub start_phase : phase_of (with_export w from to dirs) (length w.orders) ≡ Early
  start_phase = rw start_state refl

  was_aborted : exporter_of w (length w.orders) ≡ Aborted
  was_aborted = get_or_past w.exporters (length w.orders) Aborted (omega (arith, safe.exporting))

  was_unknown : importer_of w (length w.orders) ≡ Unknown
  was_unknown = get_or_past w.importers (length w.orders) Unknown (omega (arith, safe.importing))

  no_flag : (a b : Bool) → a ≡ false → (b && a) ≡ false
  no_flag a b h = grind arith

  pub start_owns : (r d : ℕ) → owns (with_export w from to dirs) r d ≡ owns w r d
  start_owns r d = owned_by_more w.orders (record { from = from; to = to; dirs = dirs }) d false (journal_of w r)
      (safe.tables.exported r (length w.orders) ∙ no_flag (is_committed (exporter_of w (length w.orders)))
      (eqb r (from_of w (length w.orders))) (rw was_aborted refl))
      (safe.tables.imported r (length w.orders) ∙ no_flag (is_imported (importer_of w (length w.orders)))
      (eqb r (to_of w (length w.orders))) (rw was_unknown refl))

  pub start_unused : (d : ℕ) → is_inside w (length w.orders) d ≡ false
  start_unused d = rw (get_or_past w.orders (length w.orders) no_order (omega arith)) refl

  start_ranked : (x : ℕ) → x < length (w.orders ++ record { from = from; to = to; dirs = dirs } ∷ []) →
      (from_of (with_export w from to dirs) x < length w.journals) × (to_of (with_export w from to dirs) x < length w.journals)
  start_ranked x h = elim (cases_eq x (length w.orders)) [
    | inl e ↦ rw (e, start_from, start_to) (from_near, to_near)
    | inr n ↦ (let m : x < length w.orders + 1 = rw (length_push w.orders (record { from = from; to = to; dirs = dirs })) at h in
        rw (start_froms x n, start_tos x n) (safe.ranked x (omega arith)))
  ]

  pub start_safe : Safe (with_export w from to dirs)
  start_safe =
      let owning : Owning (is_inside w) (from_of w) (to_of w) (phase_of w) (owns (with_export w from to dirs)) (named_of w) =
      same_owning _ _ _ _ _ _ _ _ (request_of w) safe.owning safe.running (λ y. refl) start_owns in
      let running : Running (is_inside w) (phase_of w) (owns (with_export w from to dirs)) (request_of w) =
      same_running _ _ _ _ _ _ _ _ _ safe.owning safe.running (λ y. refl) start_owns in
      let mine : (d : ℕ) → is_inside (with_export w from to dirs) (length w.orders) d ≡ true
      → owns (with_export w from to dirs) (from_of (with_export w from to dirs) (length w.orders)) d ≡ true =
      λ d i. rw (start_from, start_owns from d) (owned d (sym (start_inside d) ∙ i)) in
      let alone : (y d : ℕ) → is_inside (with_export w from to dirs) (length w.orders) d ≡ true → is_inside w y d ≡ true → is_over (phase_of w y) ≡ true =
      λ y d i j. free y d (sym (start_inside d) ∙ i) j in
      record {
        tables = rw (length_push w.orders (record { from = from; to = to; dirs = dirs }))
            (begun_tables _ _ _ _ _ _ _ safe.tables (from_of (with_export w from to dirs)) (to_of (with_export w from to dirs))
            (exporter_of (with_export w from to dirs)) (importer_of (with_export w from to dirs)) _
            start_froms start_tos start_states start_importers
            (push_get w.sent (Discover (length w.orders))) was_aborted was_unknown start_state);
        owning = start_owning (is_inside w) (is_inside (with_export w from to dirs)) (from_of w) (to_of w)
            (from_of (with_export w from to dirs)) (to_of (with_export w from to dirs)) _ _ _ _ (request_of w) (length w.orders)
            owning running start_phase start_phases start_froms start_tos start_insides mine alone start_unused;
        running = start_running (is_inside w) (is_inside (with_export w from to dirs)) (from_of w) (to_of w)
            (from_of (with_export w from to dirs)) (to_of (with_export w from to dirs)) _ _ _ (named_of w) _ (length w.orders)
            owning running start_phase start_phases start_froms start_tos start_insides mine alone start_unused;
        present = safe.present;
        numbered = safe.numbered;
        exporting = length_push w.exporters Discovering
            ∙ (ap (λ n. n + 1) safe.exporting ∙ sym (length_push w.orders (record { from = from; to = to; dirs = dirs })));
        importing = length_push w.importers Unknown
            ∙ (ap (λ n. n + 1) safe.importing ∙ sym (length_push w.orders (record { from = from; to = to; dirs = dirs })));
        ranked = start_ranked;
        all_ranks = safe.all_ranks;
      }

module _ (w : World) (safe : Safe w) where
  pub start_keeps : (from to : ℕ) (dirs : List ℕ) → NoneOf (causes w (Start from to dirs)) → Safe (happens w (Start from to dirs)).world
  unfolding causes happens
  start_keeps from to dirs h =
      let there : list_all (is_present w) dirs ≡ true = not-false (list_all (is_present w) dirs) (not_refused _ _ h.1.1.1.1.0) in
      let leaves : (d : ℕ) → is_among dirs d ≡ true → NoneOf (busy (open_export w d) ∷ elsewhere from (authority w d) ∷ []) =
      λ d i. none_of (busy (open_export w d) ∷ elsewhere from (authority w d) ∷ [])
      (least_none w from dirs (length w.parents) h.1.1.1.1.1.1.0 d (there_near w d (all_there w dirs there d i)) i) in
      let opens : (d : ℕ) → is_among dirs d ≡ true → open_export w d ≡ None = λ d i. busy_none (open_export w d) (leaves d i).0 in
      let here : (d : ℕ) → is_among dirs d ≡ true → IsAuthority w from d =
      λ d i. (authority_is w d from (is_here from (authority w d) (leaves d i).1.0)).1 in
      start_safe w safe from to dirs
      (rw safe.all_ranks (leb-false w.ranks from (not_refused _ _ h.0))) (rw safe.all_ranks (leb-false w.ranks to (not_refused _ _ h.1.0)))
      (λ d i. free_owner w safe from d (here d i) (no_open w safe d (opens d i)))
      (λ x d i j. no_open w safe d (opens d i) x j)
