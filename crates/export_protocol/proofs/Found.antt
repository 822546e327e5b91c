-- What the tables by directory find: what freezes a directory, and who serves it.
use Rattle.std.proofs.Common.{◌≡◌, ◌≢◌, ℕ, ◌<◌, Bool, true, false, ◌&&◌, ◌||◌, not, eqb, length, Some}
use Rattle.std.proofs.Common.{None, refl, sym, ap, ◌∙◌, inl, inr, arith, zero, suc, Option, subst, ◌⊎◌}
use Rattle.std.proofs.lemmas.Bool.{cases_eq, cases_lt, and_from, and_parts, cases_Bool, not-true, or_cases, or_left, or_parts, or_right}
use Rattle.export_protocol.specs.declared.exporter.ExporterState.{ExporterState}
use Rattle.export_protocol.specs.declared.importer.ImporterState.{ImporterState}
use Rattle.export_protocol.specs.declared.exporter.ExporterState.TheVariants.{Exporting, Logged, Done, Aborted, Discovering, Freezing, Preparing}
use Rattle.export_protocol.specs.declared.importer.ImporterState.TheVariants.{Prepared, Started, Imported, Dropped}
use Rattle.export_protocol.specs.Cluster.{World}
use Rattle.export_protocol.specs.Authority.{is_inside, from_of, to_of, exporter_of, importer_of, owns}
use Rattle.export_protocol.specs.Authority.{authority, is_open, open_export, named_of, IsAuthority, any_below}
use Rattle.export_protocol.specs.Authority.{first_below, is_holding, is_held_in, is_taking_over, serves, frozen_by}
use Rattle.export_protocol.specs.View.{IsReached}
use Rattle.export_protocol.proofs.Owning.{is_moving, is_over, Phase, place}
use Rattle.export_protocol.proofs.Safe.{Safe, phase_by, phase_of}
use Rattle.export_protocol.proofs.Lookups.{itself, inside_there, any_some, any_here, first_none, first_some, inside_near}
use Rattle.export_protocol.proofs.Lookups.{authority_is, open_over, taking_over, takes_over, no_open, one_authority, moving_open}
use Rattle.export_protocol.proofs.Owning.Phase.{Told, Over}
use Rattle.export_protocol.proofs.Authorities.{authority_found, found_or_not}
use Rattle.export_protocol.proofs.Walks.{authority_near}
use Rattle.export_protocol.proofs.Reached.{by_safe}

-- equations that the invariant implies hold wherever events led

pub same_option : (a b : Option ℕ) → (a ≡ b) ⊎ (a ≢ b)
same_option None None = inl refl
same_option None (Some b) = inr (λ e. cc)
same_option (Some a) None = inr (λ e. cc)
same_option (Some a) (Some b) = elim (cases_eq a b) [ inl e ↦ inl (ap Some e) | inr n ↦ inr (λ e. n (cc)) ]

same_bool : (a b : Bool) → (a ≡ b) ⊎ (a ≢ b)
same_bool true true = inl refl
same_bool true false = inr (λ e. cc)
same_bool false true = inr (λ e. cc)
same_bool false false = inl refl

-- the invariant, as far as what can be tested goes
abbrev pub Safely : World → Type 0
Safely w = (Safe w → ⊥) → ⊥

pub options_safely : (w : World) → Safely w → (a b : Option ℕ) → (Safe w → a ≡ b) → a ≡ b
options_safely w s a b f = elim (same_option a b) [ inl e ↦ e | inr n ↦ absurd (s (λ safe. n (f safe))) ]

pub options_by : (w : World) → IsReached w → (a b : Option ℕ) → (Safe w → a ≡ b) → a ≡ b
options_by w r a b f = options_safely w (by_safe w r) a b f

pub tests_by : (w : World) → IsReached w → (a b : Bool) → (Safe w → a ≡ b) → a ≡ b
tests_by w r a b f = elim (same_bool a b) [ inl e ↦ e | inr n ↦ absurd (by_safe w r (λ safe. n (f safe))) ]

pub orders_safely : (w : World) → Safely w → (a b : ℕ) → (Safe w → a < b) → a < b
orders_safely w s a b f = elim (cases_lt a b) [ inl l ↦ l | inr m ↦ absurd (s (λ safe. (let l : a < b = f safe in omega arith))) ]

pub orders_by : (w : World) → IsReached w → (a b : ℕ) → (Safe w → a < b) → a < b
orders_by w r a b f = orders_safely w (by_safe w r) a b f

-- searches below a number

pub first_is_none : (n : ℕ) (test : ℕ → Bool) → ((k : ℕ) → k < n → test k ≡ false) → first_below n test ≡ None
first_is_none n test h = elim (found_or_not (first_below n test)) [
  | inl e ↦ e
  | inr f ↦ (let s : (f.0 < n) × (test f.0 ≡ true) = first_some n test f.0 f.1 in absurd (cc (h f.0 s.0, s.1)))
]

pub first_is : (n : ℕ) (test : ℕ → Bool) (x : ℕ) → x < n → test x ≡ true → ((k : ℕ) → k < n → test k ≡ true → k ≡ x) → first_below n test ≡ Some x
first_is n test x l t h = elim (found_or_not (first_below n test)) [
  | inl e ↦ absurd (cc (first_none n test e x l, t))
  | inr f ↦ (let s : (f.0 < n) × (test f.0 ≡ true) = first_some n test f.0 f.1 in f.1 ∙ ap Some (h f.0 s.0 s.1))
]

pub first_same : (n : ℕ) (f g : ℕ → Bool) → ((k : ℕ) → k < n → f k ≡ g k) → first_below n f ≡ first_below n g
first_same zero f g h = refl
first_same (suc n) f g h = rw (first_same n f g (λ k l. h k (omega arith)), h n (omega arith)) refl

-- phases

holding_phase : (e : ExporterState) (i : ImporterState) → is_holding e ≡ true → (is_over (phase_by e i) ≡ false) × (is_moving (phase_by e i) ≡ false)
holding_phase e i h = (grind arith, grind arith)

held_or_moving : (e : ExporterState) (i : ImporterState) → is_over (phase_by e i) ≡ false → e ≢ Discovering
    → (is_holding e ≡ true) ⊎ (is_moving (phase_by e i) ≡ true)
held_or_moving Discovering i h n = absurd (n refl)
held_or_moving Freezing i h n = inl refl
held_or_moving Preparing i h n = inl refl
held_or_moving Exporting i h n = inl refl
held_or_moving Logged i h n = inr refl
held_or_moving Done i h n = inr (told (phase_by Done i) (not_early i) h)
  where
    not_early : (j : ImporterState) → (phase_by Done j ≡ Told) ⊎ (phase_by Done j ≡ Over)
    not_early ImporterState.Unknown = inl refl
    not_early ImporterState.Discovered = inl refl
    not_early ImporterState.Prepared = inl refl
    not_early ImporterState.Started = inl refl
    not_early ImporterState.Imported = inr refl
    not_early ImporterState.Dropped = inl refl

    told : (p : Phase) → (p ≡ Told) ⊎ (p ≡ Over) → is_over p ≡ false → is_moving p ≡ true
    told p (inl e) k = rw e refl
    told p (inr e) k = absurd (cc (rw e at k))
held_or_moving Aborted i h n = absurd (cc)

pub place_early : (p : Phase) (from to : ℕ) → is_moving p ≡ false → place from to p ≡ from
place_early p from to h = grind arith

module _ (w : World) (safe : Safe w) where
  pub open_is : (d x : ℕ) → open_export w d ≡ Some x → (is_inside w x d ≡ true) × (is_over (phase_of w x) ≡ false)
  unfolding open_export
  open_is d x e =
      let f : (x < length w.orders) × ((is_open w x && is_inside w x d) ≡ true) = first_some (length w.orders) (λ y. is_open w y && is_inside w y d) x e in
      let g : (is_open w x ≡ true) × (is_inside w x d ≡ true) = and_parts (is_open w x) (is_inside w x d) f.1 in
      (g.1, not-true (is_over (phase_of w x)) (sym (open_over w safe x) ∙ g.0))

  -- what freezes a directory is open and isn't discovering
  freezes_is : (r d y : ℕ) → (is_held_in w r d y || (is_taking_over w r y && is_inside w y d)) ≡ true →
      (is_inside w y d ≡ true) × (is_over (phase_of w y) ≡ false) × (exporter_of w y ≢ Discovering)
  freezes_is r d y h = elim (or_cases (is_held_in w r d y) (is_taking_over w r y && is_inside w y d) h) [
    | inl k ↦
        (let a : ((eqb (from_of w y) r && is_holding (exporter_of w y)) ≡ true)
        × (is_inside w y d ≡ true) = and_parts (eqb (from_of w y) r && is_holding (exporter_of w y)) (is_inside w y d) k in
        let b : (eqb (from_of w y) r ≡ true) × (is_holding (exporter_of w y) ≡ true) = and_parts (eqb (from_of w y) r) (is_holding (exporter_of w y)) a.0 in
        (a.1, (holding_phase (exporter_of w y) (importer_of w y) b.1).0, λ e. cc (rw e at b.1)))
    | inr k ↦
        (let a : (is_taking_over w r y ≡ true) × (is_inside w y d ≡ true) = and_parts (is_taking_over w r y) (is_inside w y d) k in
        let m : is_moving (phase_of w y) ≡ true = (taking_over w safe r y a.0).1 in
        (a.1, moving_open (phase_of w y) m, λ e. cc (rw e at m)))
  ]

  none_frozen : (r d : ℕ) → open_export w d ≡ None → frozen_by w r d ≡ None
  unfolding frozen_by
  none_frozen r d e = first_is_none (length w.orders) (λ x. is_held_in w r d x || (is_taking_over w r x && is_inside w x d))
      (λ y l. go y (cases_Bool (is_held_in w r d y || (is_taking_over w r y && is_inside w y d))))
    where
      go : (y : ℕ) → ((is_held_in w r d y || (is_taking_over w r y && is_inside w y d)) ≡ true)
          ⊎ ((is_held_in w r d y || (is_taking_over w r y && is_inside w y d)) ≡ false) →
          (is_held_in w r d y || (is_taking_over w r y && is_inside w y d)) ≡ false
      go y (inr f) = f
      go y (inl t) = (let f = freezes_is r d y t in absurd (cc (no_open w safe d e y f.0, f.1)))

  discovering_frozen : (r d x : ℕ) → open_export w d ≡ Some x → exporter_of w x ≡ Discovering → frozen_by w r d ≡ None
  unfolding frozen_by
  discovering_frozen r d x e k = first_is_none (length w.orders) (λ y. is_held_in w r d y || (is_taking_over w r y && is_inside w y d))
      (λ y l. go y (cases_Bool (is_held_in w r d y || (is_taking_over w r y && is_inside w y d))))
    where
      go : (y : ℕ) → ((is_held_in w r d y || (is_taking_over w r y && is_inside w y d)) ≡ true)
          ⊎ ((is_held_in w r d y || (is_taking_over w r y && is_inside w y d)) ≡ false) →
          (is_held_in w r d y || (is_taking_over w r y && is_inside w y d)) ≡ false
      go y (inr f) = f
      go y (inl t) =
          let f = freezes_is r d y t in
          let o : (is_inside w x d ≡ true) × (is_over (phase_of w x) ≡ false) = open_is d x e in
          let s : y ≡ x = safe.owning.one_export y x d f.0 o.0 f.1 o.1 in
          absurd (f.2 (ap (exporter_of w) s ∙ k))

  -- the authority doesn't serve for the sake of the open export
  is_frozen : (r d x : ℕ) → authority w d ≡ Some r → open_export w d ≡ Some x → exporter_of w x ≢ Discovering → frozen_by w r d ≡ Some x
  unfolding frozen_by
  is_frozen r d x a e n =
      first_is (length w.orders) (λ y. is_held_in w r d y || (is_taking_over w r y && is_inside w y d)) x (inside_near w x d o.0) here
      (λ y l t. (let f = freezes_is r d y t in safe.owning.one_export y x d f.0 o.0 f.1 o.1))
    where
      o : (is_inside w x d ≡ true) × (is_over (phase_of w x) ≡ false)
      o = open_is d x e

      some_same : (p q : ℕ) → Some p ≡ Some q → p ≡ q
      some_same p q k = cc

      owned_from : is_moving (phase_of w x) ≡ false → IsAuthority w r d → from_of w x ≡ r
      owned_from m (inl k) =
          let placed : named_of w d ≡ Some (place (from_of w x) (to_of w x) (phase_of w x)) = safe.owning.placed x d o.0 o.1 in
          some_same (from_of w x) r (ap Some (sym (place_early (phase_of w x) (from_of w x) (to_of w x) m)) ∙ (sym placed ∙ safe.owning.owner_named r d k))
      owned_from m (inr t) =
          let g : (r ≡ to_of w t.0) × (is_moving (phase_of w t.0) ≡ true) = taking_over w safe r t.0 t.1 in
          let s : t.0 ≡ x = safe.owning.one_export t.0 x d t.2 o.0 (moving_open (phase_of w t.0) g.1) o.1 in
          absurd (cc (rw s at g.1, m))

      here : (is_held_in w r d x || (is_taking_over w r x && is_inside w x d)) ≡ true
      here = elim (held_or_moving (exporter_of w x) (importer_of w x) o.1 n) [
        | inl h ↦
            (let f : from_of w x ≡ r = owned_from (holding_phase (exporter_of w x) (importer_of w x) h).1 (authority_is w d r a).1 in
            or_left (is_held_in w r d x) (is_taking_over w r x && is_inside w x d) (rw (f, itself r, h, o.0) refl))
        | inr m ↦
            (let t : is_taking_over w (to_of w x) x ≡ true = takes_over w safe x m in
            let s : to_of w x ≡ r = one_authority w safe (to_of w x) r d (inr (x, t, o.0)) (authority_is w d r a).1 in
            or_right (is_held_in w r d x) (is_taking_over w r x && is_inside w x d)
            (and_from (is_taking_over w r x) (is_inside w x d) (subst (λ s. is_taking_over w s x ≡ true) s t) o.0))
      ]

  serving : (r d : ℕ) → authority w d ≡ Some r → frozen_by w r d ≡ None → serves w r d ≡ true
  unfolding serves frozen_by
  serving r d a f = and_from (owns w r d) (not (any_below (length w.orders) (is_held_in w r d))) (owned (authority_is w d r a).1)
      (unheld (any_below (length w.orders) (is_held_in w r d)) refl)
    where
      free : (y : ℕ) → y < length w.orders → (is_held_in w r d y ≡ false) × ((is_taking_over w r y && is_inside w y d) ≡ false)
      free y l = or_parts (is_held_in w r d y) (is_taking_over w r y && is_inside w y d)
          (first_none (length w.orders) (λ x. is_held_in w r d x || (is_taking_over w r x && is_inside w x d)) f y l)

      owned : IsAuthority w r d → owns w r d ≡ true
      owned (inl o) = o
      owned (inr t) = absurd (cc (and_from (is_taking_over w r t.0) (is_inside w t.0 d) t.1 t.2, (free t.0 (inside_near w t.0 d t.2)).1))

      unheld : (b : Bool) → any_below (length w.orders) (is_held_in w r d) ≡ b → not b ≡ true
      unheld false e = refl
      unheld true e = (let g : (k : ℕ) × (k < length w.orders)
          × (is_held_in w r d k ≡ true) = any_some (length w.orders) (is_held_in w r d) e in absurd (cc (g.2, (free g.0 g.1).0)))

  not_serving : (r d x : ℕ) → frozen_by w r d ≡ Some x → serves w r d ≡ false
  unfolding serves frozen_by
  not_serving r d x f =
      let s : (x < length w.orders) × ((is_held_in w r d x || (is_taking_over w r x && is_inside w x d)) ≡ true) =
      first_some (length w.orders) (λ y. is_held_in w r d y || (is_taking_over w r y && is_inside w y d)) x f in
      elim (or_cases (is_held_in w r d x) (is_taking_over w r x && is_inside w x d) s.1) [
        | inl h ↦ second (owns w r d) (any_below (length w.orders) (is_held_in w r d)) (any_here (length w.orders) (is_held_in w r d) x s.0 h)
        | inr t ↦
            (let p : (is_taking_over w r x ≡ true) × (is_inside w x d ≡ true) = and_parts (is_taking_over w r x) (is_inside w x d) t in
            first (owns w r d) (any_below (length w.orders) (is_held_in w r d)) (safe.owning.moving x r d p.1 (taking_over w safe r x p.0).1))
      ]
    where
      first : (a b : Bool) → a ≡ false → (a && not b) ≡ false
      first a b k = grind arith

      second : (a b : Bool) → b ≡ true → (a && not b) ≡ false
      second a b k = grind arith

  elsewhere_serving : (r d : ℕ) → authority w d ≢ Some r → serves w r d ≡ false
  unfolding serves
  elsewhere_serving r d n = go (serves w r d) refl
    where
      go : (b : Bool) → serves w r d ≡ b → b ≡ false
      go false e = refl
      go true e =
          let o : owns w r d ≡ true = (and_parts (owns w r d) (not (any_below (length w.orders) (is_held_in w r d))) e).0 in
          absurd (n (authority_found w safe r d (inl o) (authority_near w safe r d (inl o))))

-- the same of each world that events led to
module _ (w : World) (reached : IsReached w) where
  pub found_none : (d : ℕ) → open_export w d ≡ None → (r : ℕ) → authority w d ≡ Some r → None ≡ frozen_by w r d
  found_none d e r a = options_by w reached None (frozen_by w r d) (λ safe. sym (none_frozen w safe r d e))

  pub found_discovering : (d x : ℕ) → open_export w d ≡ Some x → exporter_of w x ≡ Discovering → (r : ℕ) → authority w d ≡ Some r → None ≡ frozen_by w r d
  found_discovering d x e k r a = options_by w reached None (frozen_by w r d) (λ safe. sym (discovering_frozen w safe r d x e k))

  pub found_frozen : (d x : ℕ) → open_export w d ≡ Some x → exporter_of w x ≢ Discovering → (r : ℕ) → authority w d ≡ Some r → Some x ≡ frozen_by w r d
  found_frozen d x e n r a = options_by w reached (Some x) (frozen_by w r d) (λ safe. sym (is_frozen w safe r d x a e n))

  pub found_serving : (r d : ℕ) → authority w d ≡ Some r → frozen_by w r d ≡ None → true ≡ serves w r d
  found_serving r d a f = tests_by w reached true (serves w r d) (λ safe. sym (serving w safe r d a f))

  pub found_not_serving : (r d x : ℕ) → frozen_by w r d ≡ Some x → false ≡ serves w r d
  found_not_serving r d x f = tests_by w reached false (serves w r d) (λ safe. sym (not_serving w safe r d x f))

  pub found_elsewhere : (r d : ℕ) → authority w d ≢ Some r → false ≡ serves w r d
  found_elsewhere r d n = tests_by w reached false (serves w r d) (λ safe. sym (elsewhere_serving w safe r d n))

pub notify_there : (w : World) → IsReached w → (x : ℕ) → exporter_of w x ≡ Logged → (d : ℕ) → is_inside w x d ≡ true → d < length w.named
notify_there w r x e d i = orders_by w r d (length w.named) (λ safe. rw (← safe.numbered) (inside_there w safe x (rw e refl) d i))
