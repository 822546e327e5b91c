-- Which directories are there is in the journals, and what a stopped rank knows.
use Rattle.std.proofs.Common.{◌≡◌, ◌≢◌, ℕ, zero, suc, ◌+◌, ◌<◌, ◌≤◌, Bool, true, false, ◌&&◌, ◌||◌, eqb, cond, List, []}
use Rattle.std.proofs.Common.{◌∷◌, ◌++◌, length, get_or, set, replicate, Option, Some, None, refl, sym, ap, ◌∙◌, subst, inl, inr, arith}
use Rattle.std.specs.Option.{is_some}
use Rattle.std.specs.List.{slice_get}
use Rattle.std.proofs.lemmas.Bool.{cases_Bool, cases_eq, cases_lt, or_cases, or_left, or_right, and_parts, eqb-true}
use Rattle.std.proofs.lemmas.List.{get_or-set_same, get_or-set_other, get_or_past, length-set}
use Rattle.std.proofs.Math.Logic.{∥∥₁_elim}
use Rattle.export_protocol.specs.declared.journal.JournalEntry.{JournalEntry}
use Rattle.export_protocol.specs.declared.message.Message.{Message}
use Rattle.export_protocol.specs.declared.step_error.StepError.{StepError}
use Rattle.export_protocol.specs.Cluster.{World}
use Rattle.mds_types.specs.declared.order.Order.{Order}
use Rattle.export_protocol.specs.Authority.{is_among, order_in, no_order, from_of, exporter_of, importer_of, journal_of}
use Rattle.export_protocol.specs.Authority.{is_present, has, has_entry, is_same, authority, any_below, is_stopped}
use Rattle.export_protocol.specs.Step.{step, answered, refusal, happens, counted, receiver, run, start, journaled_by, changed, ignored, restarts, about}
use Rattle.export_protocol.specs.declared.event.Event.{Event}
use Rattle.export_protocol.specs.declared.event.Event.TheVariants.{Begin, End, Start, Deliver, Froze, Notify, Abort, Stop, Restart, Ask}
use Rattle.export_protocol.specs.View.{IsReached}
use Rattle.export_protocol.specs.Entries.{Entry, IsThere, AreInJournals, AreMade, entered, accepted_entry, delivered_entry, comes_entry, entry, parents_after}
use Rattle.export_protocol.proofs.Views.{has_push, push_same, push_other, length_push}
use Rattle.export_protocol.proofs.Lookups.{itself, any_some, any_none}
use Rattle.export_protocol.proofs.Frame.{delivered_frame}
use Rattle.export_protocol.proofs.Events.{set_none, there_near}
use Rattle.export_protocol.proofs.Theorem.{replicate_get}
use Rattle.export_protocol.proofs.Reached.{reached_step, started}
use Rattle.export_protocol.proofs.Accepted.{made_has, gone_has, gone_there}
use Rattle.export_protocol.proofs.Accepted.{start_there}
use Rattle.export_protocol.proofs.Entries.{is_recorded, is_quiet, is_plain, quiet_move}

-- what an entry adds to what a journal has

abbrev pub adds : ℕ → Option Entry → JournalEntry → Bool
adds r None f = false
adds r (Some e) f = eqb e.rank r && is_same e.entry f

or_false : (b : Bool) → b ≡ (b || false)
or_false b = grind arith

pub entered_has : (r : ℕ) (o : Option Entry) (j : List JournalEntry) (f : JournalEntry) → has_entry (entered r o j) f ≡ (has_entry j f || adds r o f)
entered_has r None j f = or_false (has_entry j f)
entered_has r (Some e) j f = go (eqb e.rank r)
  where
    go : (b : Bool) → has_entry (cond b (j ++ e.entry ∷ []) j) f ≡ (has_entry j f || (b && is_same e.entry f))
    go true = has_push j e.entry f
    go false = or_false (has_entry j f)

and_none : (b : Bool) → (b && false) ≡ false
and_none b = grind arith

plain_made : (e : JournalEntry) (d : ℕ) → is_plain e ≡ true → (is_same e (JournalEntry.Made d) ≡ false) × (is_same e (JournalEntry.Gone d) ≡ false)
plain_made e d h = (grind arith, grind arith)

quiet_adds : (o : Option Entry) → is_quiet o ≡ true → (r d : ℕ) → (adds r o (JournalEntry.Made d) ≡ false) × (adds r o (JournalEntry.Gone d) ≡ false)
quiet_adds None q r d = (refl, refl)
quiet_adds (Some e) q r d = (rw (plain_made e.entry d q).0 (and_none (eqb e.rank r)), rw (plain_made e.entry d q).1 (and_none (eqb e.rank r)))

-- messages are quiet

quiet_comes : (w : World) (m : Message) → is_quiet (comes_entry w m) ≡ true
quiet_comes w m = quiet_move (receiver w m) m (exporter_of w (about m)) (importer_of w (about m))

quiet_delivered : (w : World) (o : Option Message) → is_quiet (delivered_entry w o) ≡ true
quiet_delivered w None = refl
quiet_delivered w (Some m) = go (is_stopped w (receiver w m))
  where
    go : (b : Bool) → is_quiet (cond b None (comes_entry w m)) ≡ true
    go true = refl
    go false = quiet_comes w m

-- the invariant

pub record Noted (w : World) : Type 0 where
  pub made : (r d : ℕ) → has w r (JournalEntry.Made d) ≡ true → d < length w.parents
  pub maker : (d : ℕ) → d < length w.parents → (r : ℕ) × (has w r (JournalEntry.Made d) ≡ true)
  pub gone : (r d : ℕ) → has w r (JournalEntry.Gone d) ≡ true → (d < length w.parents) × (is_present w d ≡ false)
  pub remover : (d : ℕ) → d < length w.parents → is_present w d ≡ false → (r : ℕ) × (has w r (JournalEntry.Gone d) ≡ true)
  pub inside : AreMade w

-- a world whose journals have one entry more
module _ (w v : World) (noted : Noted w) (o : Option Entry) (grown : (r : ℕ) → journal_of v r ≡ entered r o (journal_of w r)) where
  has_more : (r : ℕ) (f : JournalEntry) → has v r f ≡ (has w r f || adds r o f)
  has_more r f = ap (λ j. has_entry j f) (grown r) ∙ entered_has r o (journal_of w r) f

  had : (r : ℕ) (f : JournalEntry) → adds r o f ≡ false → has v r f ≡ true → has w r f ≡ true
  had r f a h = old (has w r f) (adds r o f) (sym (has_more r f) ∙ h) a
    where
      old : (b c : Bool) → (b || c) ≡ true → c ≡ false → b ≡ true
      old b c k l = grind arith

  keeps : (r : ℕ) (f : JournalEntry) → has w r f ≡ true → has v r f ≡ true
  keeps r f h = has_more r f ∙ or_left (has w r f) (adds r o f) h

  -- the tree stays
  quiet_noted : ((r d : ℕ) → (adds r o (JournalEntry.Made d) ≡ false) × (adds r o (JournalEntry.Gone d) ≡ false)) → v.parents ≡ w.parents → AreMade v → Noted v
  quiet_noted q p i = record {
    made = λ r d h. rw p (noted.made r d (had r (JournalEntry.Made d) (q r d).0 h));
    maker = λ d l. (let m = noted.maker d (rw p at l) in (m.0, keeps m.0 (JournalEntry.Made d) m.1));
    gone = λ r d h. rw p (noted.gone r d (had r (JournalEntry.Gone d) (q r d).1 h));
    remover = λ d l n. (let m = noted.remover d (rw p at l) (rw p at n) in (m.0, keeps m.0 (JournalEntry.Gone d) m.1));
    inside = i;
  }

abbrev pub made_entry : ℕ → ℕ → Option Entry
made_entry a d = Some (record { rank = a; entry = JournalEntry.Made d })

abbrev pub gone_entry : ℕ → ℕ → Option Entry
gone_entry a d = Some (record { rank = a; entry = JournalEntry.Gone d })

-- a directory was made
module _ (w v : World) (noted : Noted w) (a p : ℕ) (grown : (r : ℕ) → journal_of v r ≡ entered r (made_entry a (length w.parents)) (journal_of w r))
    (parents : v.parents ≡ w.parents ++ Some p ∷ []) where
  longer : length v.parents ≡ length w.parents + 1
  longer = ap length parents ∙ length_push w.parents (Some p)

  here : is_present v (length w.parents) ≡ true
  here = ap is_some (ap (λ (ps : List (Option ℕ)). get_or ps (length w.parents) None) parents ∙ push_same w.parents (Some p) None)

  others : (d : ℕ) → d ≢ length w.parents → is_present v d ≡ is_present w d
  others d n = ap is_some (ap (λ (ps : List (Option ℕ)). get_or ps d None) parents ∙ push_other w.parents (Some p) None d n)

  made_noted : AreMade v → Noted v
  made_noted i = record {
    made = λ r d h. elim (or_cases (has w r (JournalEntry.Made d)) (eqb a r && eqb (length w.parents) d)
        (sym (has_more w v noted (made_entry a (length w.parents)) grown r (JournalEntry.Made d)) ∙ h)) [
          | inl old ↦ (let l : d < length w.parents = noted.made r d old in omega (arith, longer))
          | inr new ↦
              (let e : length w.parents ≡ d = eqb-true (length w.parents) d (and_parts (eqb a r) (eqb (length w.parents) d) new).1 in
              omega (arith, longer))
        ];
    maker = λ d l. elim (cases_lt d (length w.parents)) [
      | inl m ↦ (let k = noted.maker d m in (k.0, keeps w v noted (made_entry a (length w.parents)) grown k.0 (JournalEntry.Made d) k.1))
      | inr m ↦ (let e : d ≡ length w.parents = omega (arith, longer) in (
        a,
        has_more w v noted (made_entry a (length w.parents)) grown a (JournalEntry.Made d) ∙
            or_right (has w a (JournalEntry.Made d)) (eqb a a && eqb (length w.parents) d) (rw (e, itself a, itself (length w.parents)) refl),
      ))
    ];
    gone = λ r d h. (let k = noted.gone r d (had w v noted (made_entry a (length w.parents)) grown r (JournalEntry.Gone d) (and_none (eqb a r)) h) in
        let l : d < length w.parents = k.0 in
        (omega (arith, longer), others d (λ e. absurd (omega arith)) ∙ k.1));
    remover = λ d l n. elim (cases_eq d (length w.parents)) [
      | inl e ↦ absurd (cc (rw e at n, here))
      | inr m ↦ (let k = noted.remover d (omega (arith, longer)) (sym (others d m) ∙ n) in
          (k.0, keeps w v noted (made_entry a (length w.parents)) grown k.0 (JournalEntry.Gone d) k.1))
    ];
    inside = i;
  }

-- a directory was removed
module _ (w v : World) (noted : Noted w) (a c : ℕ) (there : c < length w.parents)
    (grown : (r : ℕ) → journal_of v r ≡ entered r (gone_entry a c) (journal_of w r))
    (parents : v.parents ≡ set w.parents c None) where
  as_long : length v.parents ≡ length w.parents
  as_long = ap length parents ∙ length-set w.parents c None

  away : is_present v c ≡ false
  away = ap is_some (ap (λ (ps : List (Option ℕ)). get_or ps c None) parents ∙ set_none w.parents c)

  rest : (d : ℕ) → d ≢ c → is_present v d ≡ is_present w d
  rest d n = ap is_some (ap (λ (ps : List (Option ℕ)). get_or ps d None) parents ∙ get_or-set_other w.parents c d None None n)

  gone_noted : AreMade v → Noted v
  gone_noted i = record {
    made = λ r d h. (let l : d < length w.parents = noted.made r d
        (had w v noted (gone_entry a c) grown r (JournalEntry.Made d) (and_none (eqb a r)) h) in omega (arith, as_long));
    maker = λ d l. (let k = noted.maker d (omega (arith, as_long)) in (k.0, keeps w v noted (gone_entry a c) grown k.0 (JournalEntry.Made d) k.1));
    gone = λ r d h. elim (cases_eq d c) [
      | inl e ↦ rw (e, as_long) (there, away)
      | inr n ↦ elim (or_cases (has w r (JournalEntry.Gone d)) (eqb a r && eqb c d)
          (sym (has_more w v noted (gone_entry a c) grown r (JournalEntry.Gone d)) ∙ h)) [
            | inl old ↦ (let k = noted.gone r d old in (rw as_long k.0, rest d n ∙ k.1))
            | inr new ↦ absurd (n (sym (eqb-true c d (and_parts (eqb a r) (eqb c d) new).1)))
          ]
    ];
    remover = λ d l n. elim (cases_eq d c) [
      | inl e ↦ (
        a,
        has_more w v noted (gone_entry a c) grown a (JournalEntry.Gone d)
            ∙ or_right (has w a (JournalEntry.Gone d)) (eqb a a && eqb c d) (rw (e, itself a, itself c) refl),
      )
      | inr m ↦ (let k = noted.remover d (omega (arith, as_long)) (sym (rest d m) ∙ n) in
          (k.0, keeps w v noted (gone_entry a c) grown k.0 (JournalEntry.Gone d) k.1))
    ];
    inside = i;
  }

-- exports' directories

same_inside : (w v : World) → AreMade w → v.orders ≡ w.orders → length w.parents ≤ length v.parents → AreMade v
same_inside w v m o l x d i = (let k : d < length w.parents = m x d (ap (λ (os : List Order). is_among (order_in os x).dirs d) (sym o) ∙ i) in omega arith)

start_inside : (w v : World) (from to : ℕ) (dirs : List ℕ) → AreMade w
    → v.orders ≡ w.orders ++ record { from = from; to = to; dirs = dirs } ∷ [] → v.parents ≡ w.parents →
    ((d : ℕ) → is_among dirs d ≡ true → d < length w.parents) → AreMade v
start_inside w v from to dirs m o p near x d i = elim (cases_eq x (length w.orders)) [
  | inl e ↦ rw p (near d (there (order_in v.orders x) (among x e) i))
  | inr n ↦ rw p (m x d (there (order_in v.orders x)
      (ap (λ (os : List Order). order_in os x) o ∙ push_other w.orders (record { from = from; to = to; dirs = dirs }) no_order x n) i))
]
  where
    among : (y : ℕ) → y ≡ length w.orders → order_in v.orders y ≡ record { from = from; to = to; dirs = dirs }
    among y e = ap (λ (os : List Order). order_in os y) o ∙ rw e (push_same w.orders (record { from = from; to = to; dirs = dirs }) no_order)

    there : (s : Order) {t : Order} → s ≡ t → is_among s.dirs d ≡ true → is_among t.dirs d ≡ true
    there s e j = sym (ap (λ (u : Order). is_among u.dirs d) e) ∙ j

by_orders : (w : World) (o : Option ℕ) (e : JournalEntry) → (journaled_by w o e).orders ≡ w.orders
by_orders w None e = refl
by_orders w (Some a) e = refl

restart_orders : (w : World) (r : ℕ) (b : Bool) → (cond b (changed (restarts w r)) (ignored w)).world.orders ≡ w.orders
restart_orders w r true = refl
restart_orders w r false = refl

-- an accepted event

module _ (w : World) (reached : IsReached w) (noted : Noted w) where
  module _ (e : Event) (h : refusal w e ≡ None) where
    after : World
    after = (step w e).1

    grows : (r : ℕ) → journal_of (step w e).1 r ≡ entered r (accepted_entry w e) (journal_of w r)
    unfolding entry
    grows r = (is_recorded w reached e).journals r ∙ ap (λ o. entered r o (journal_of w r)) (rw h refl)

    treed : (step w e).1.parents ≡ parents_after w e
    treed = (is_recorded w reached e).parents h

    world_is : (step w e).1 ≡ counted (happens w e).world
    unfolding step
    world_is = rw h refl

    orders_are : (step w e).1.orders ≡ (happens w e).world.orders
    orders_are = ap (λ (u : World). u.orders) world_is

  quiet : (e : Event) → refusal w e ≡ None
      → ((r d : ℕ) → (adds r (accepted_entry w e) (JournalEntry.Made d) ≡ false)
      × (adds r (accepted_entry w e) (JournalEntry.Gone d) ≡ false)) → parents_after w e ≡ w.parents → (happens w e).world.orders ≡ w.orders
      → Noted (step w e).1
  quiet e h q p o = quiet_noted w (step w e).1 noted (accepted_entry w e) (grows e h) q (treed e h ∙ p)
      (same_inside w (step w e).1 noted.inside (orders_are e h ∙ o) (rw (treed e h, p) (omega arith)))

  accepted_noted : (e : Event) → refusal w e ≡ None → Noted (step w e).1
  unfolding happens
  accepted_noted (Event.Made p) h =
      let a = made_has w p h in
      made_noted w (step w (Event.Made p)).1 noted a.0 p (λ r. grows (Event.Made p) h r ∙ rw a.1 refl) (treed (Event.Made p) h)
      (same_inside w (step w (Event.Made p)).1 noted.inside (orders_are (Event.Made p) h ∙ by_orders w (authority w p) (JournalEntry.Made (length w.parents)))
      (rw (treed (Event.Made p) h, length_push w.parents (Some p)) (omega arith)))
  accepted_noted (Event.Gone d) h =
      let a = gone_has w d h in
      gone_noted w (step w (Event.Gone d)).1 noted a.0 d (there_near w d (gone_there w d h)) (λ r. grows (Event.Gone d) h r ∙ rw a.1 refl)
      (treed (Event.Gone d) h)
      (same_inside w (step w (Event.Gone d)).1 noted.inside (orders_are (Event.Gone d) h ∙ by_orders w (authority w d) (JournalEntry.Gone d))
      (rw (treed (Event.Gone d) h, length-set w.parents d None) (omega arith)))
  accepted_noted (Start f t ds) h =
      quiet_noted w (step w (Start f t ds)).1 noted None (grows (Start f t ds) h) (λ k d. (refl, refl)) (treed (Start f t ds) h)
      (start_inside w (step w (Start f t ds)).1 f t ds noted.inside (orders_are (Start f t ds) h) (treed (Start f t ds) h) (start_there w f t ds h))
  accepted_noted (Deliver k) h = quiet (Deliver k) h
      (quiet_adds (delivered_entry w (slice_get w.sent k)) (quiet_delivered w (slice_get w.sent k))) refl
      (delivered_frame w (slice_get w.sent k)).orders
  accepted_noted (Restart r) h = quiet (Restart r) h (λ k d. (refl, refl)) refl (restart_orders w r (is_stopped w r))
  accepted_noted (Begin r d) h = quiet (Begin r d) h (λ k d. (refl, refl)) refl refl
  accepted_noted (End t) h = quiet (End t) h (λ k d. (refl, refl)) refl refl
  accepted_noted (Froze x) h = quiet (Froze x) h (λ k d. (refl, refl)) refl refl
  accepted_noted (Notify x) h = quiet (Notify x) h (λ r d. (and_none (eqb (from_of w x) r), and_none (eqb (from_of w x) r))) refl refl
  accepted_noted (Abort x) h = quiet (Abort x) h (λ k d. (refl, refl)) refl refl
  accepted_noted (Stop r) h = quiet (Stop r) h (λ k d. (refl, refl)) refl refl
  accepted_noted (Ask x) h = quiet (Ask x) h (λ k d. (refl, refl)) refl refl

  step_noted : (e : Event) → Noted (step w e).1
  unfolding step
  step_noted e = go (refusal w e) refl
    where
      go : (o : Option StepError) → refusal w e ≡ o → Noted (answered w (happens w e) (refusal w e)).1
      go None h = accepted_noted e h
      go (Some f) h = rw h noted

pub run_noted : (es : List Event) (w : World) → IsReached w → Noted w → Noted (run w es)
run_noted [] w r noted = noted
run_noted (e ∷ es) w r noted = run_noted es (step w e).1 (reached_step w r e) (step_noted w r noted e)

-- the start

one_made : (d : ℕ) → has_entry (JournalEntry.Made 0 ∷ []) (JournalEntry.Made d) ≡ true → d ≡ 0
one_made d h = grind arith

pub start_noted : (limit ranks : ℕ) → 1 ≤ ranks → Noted (start limit ranks)
unfolding start
start_noted limit ranks some = record {
  made = λ r d h. (let e : d ≡ 0 = one_made d (first r (JournalEntry.Made d) h).1 in omega arith);
  maker = λ d l. (let e : d ≡ 0 = omega arith in (0, rw e (ap (λ j. has_entry j (JournalEntry.Made 0)) root)));
  gone = λ r d h. absurd (cc ((first r (JournalEntry.Gone d) h).1));
  remover = λ d l n. (let e : d ≡ 0 = omega arith in absurd (cc (rw e at n)));
  inside = λ x d i. absurd (cc);
}
  where
    replicate_length : (n : ℕ) → length (replicate {A = List JournalEntry} n []) ≡ n
    replicate_length zero = refl
    replicate_length (suc n) = ap suc (replicate_length n)

    root : get_or (set (replicate ranks []) 0 (JournalEntry.Made 0 ∷ [])) 0 [] ≡ JournalEntry.Made 0 ∷ []
    root = get_or-set_same (replicate ranks []) 0 (JournalEntry.Made 0 ∷ []) [] (rw (replicate_length ranks) some)

    first : (r : ℕ) (f : JournalEntry) → has_entry (get_or (set (replicate ranks []) 0 (JournalEntry.Made 0 ∷ [])) r []) f ≡ true
        → (r ≡ 0) × (has_entry (JournalEntry.Made 0 ∷ []) f ≡ true)
    first r f h = elim (cases_eq r 0) [
      | inl e ↦ (e, sym (ap (λ j. has_entry j f) (ap (λ k. get_or (set (replicate ranks []) 0 (JournalEntry.Made 0 ∷ [])) k []) e ∙ root)) ∙ h)
      | inr n ↦ absurd (cc (ap (λ j. has_entry j f) (get_or-set_other (replicate ranks []) 0 r (JournalEntry.Made 0 ∷ []) [] n ∙ replicate_get ranks [] r), h))
    ]

-- what the journals hold of the directories

by_noted : (w : World) → IsReached w → (Noted w → ⊥) → ⊥
by_noted w h k = ∥∥₁_elim h (λ x y. absurd x) (λ r. k (subst Noted r.4 (run_noted r.2 (start r.0 r.1) (started r.0 r.1 r.3) (start_noted r.0 r.1 r.3))))

module _ (w : World) (h : IsReached w) where
  has_near : (r : ℕ) (f : JournalEntry) → has w r f ≡ true → r < length w.journals
  has_near r f k = elim (cases_lt r (length w.journals)) [
    | inl l ↦ l
    | inr l ↦ absurd (cc (ap (λ j. has_entry j f) (get_or_past w.journals r [] l), k))
  ]

  pub are_made : AreMade w
  are_made x d i = elim (cases_lt d (length w.parents))
      [ inl l ↦ l | inr l ↦ absurd (by_noted w h (λ noted. (let k : d < length w.parents = noted.inside x d i in absurd (omega arith)))) ]

  none_gone : (d : ℕ) → is_present w d ≡ true → (r : ℕ) → has w r (JournalEntry.Gone d) ≡ false
  none_gone d p r = elim (cases_Bool (has w r (JournalEntry.Gone d))) [ inl t ↦ absurd (by_noted w h (λ noted. cc ((noted.gone r d t).1, p))) | inr f ↦ f ]

  some_made : (d : ℕ) → is_present w d ≡ true → (r : ℕ) × (has w r (JournalEntry.Made d) ≡ true)
  some_made d p = elim (cases_Bool (any_below (length w.journals) (λ r. has w r (JournalEntry.Made d)))) [
    | inl t ↦ (let s = any_some (length w.journals) (λ r. has w r (JournalEntry.Made d)) t in (s.0, s.2))
    | inr f ↦ absurd (by_noted w h (λ noted.
        (let m = noted.maker d (there_near w d p) in
        cc (any_none (length w.journals) (λ r. has w r (JournalEntry.Made d)) f m.0 (has_near m.0 (JournalEntry.Made d) m.1), m.1))))
  ]

  back : (d : ℕ) → IsThere w d → is_present w d ≡ true
  back d t = elim (cases_Bool (is_present w d)) [
    | inl p ↦ p
    | inr n ↦ absurd (by_noted w h (λ noted. (let g = noted.remover d (noted.made t.0.0 d t.0.1) n in cc (t.1 g.0, g.1))))
  ]

  pub are_in_journals : AreInJournals w
  are_in_journals d = (λ p. (some_made d p, none_gone d p), back d)
