-- What the reads of a world say where the invariant holds.
use Rattle.std.proofs.Common.{◌≡◌, ℕ, ◌-◌, ◌<◌, Bool, true, false, ◌&&◌, ◌||◌, not, eqb, cond, []}
use Rattle.std.proofs.Common.{length, Option, Some, None, refl, sym, ap, ◌∙◌, inl, inr, arith, zero, suc}
use Rattle.std.proofs.lemmas.Bool.{cases_lt, and_parts, cases_Bool, eqb-true, and_from, or_cases, or_left, or_right}
use Rattle.std.proofs.lemmas.List.{get_or_past}
use Rattle.export_protocol.specs.declared.exporter.ExporterState.{ExporterState}
use Rattle.export_protocol.specs.declared.importer.ImporterState.{ImporterState}
use Rattle.export_protocol.specs.declared.journal.JournalEntry.{JournalEntry}
use Rattle.export_protocol.specs.Cluster.{World}
use Rattle.export_protocol.specs.Authority.{no_order, is_among, is_inside, from_of, to_of, exporter_of, importer_of}
use Rattle.export_protocol.specs.Authority.{named_of, has, authority, first_below, is_open, is_aborted, open_export}
use Rattle.export_protocol.specs.Authority.{owns, is_importing, is_taking_over, IsAuthority, any_below, or_else, is_authority}
use Rattle.export_protocol.specs.Step.{is_before_log, is_started}
use Rattle.export_protocol.proofs.Owning.{is_over, place, Phase, is_moving}
use Rattle.export_protocol.proofs.Safe.{Safe, phase_by, phase_of}
use Rattle.export_protocol.proofs.Tables.{together, is_imported, is_committed}

-- searches below a number

pub any_none : (n : ℕ) (test : ℕ → Bool) → any_below n test ≡ false → (k : ℕ) → k < n → test k ≡ false
any_none zero test h k l = absurd (omega arith)
any_none (suc n) test h k l = elim (cases_lt k n) [
  | inl m ↦ any_none n test (left (any_below n test) (test n) h) k m
  | inr m ↦ (let e : k ≡ n = omega arith in rw e (right (any_below n test) (test n) h))
]
  where
    left : (a b : Bool) → (a || b) ≡ false → a ≡ false
    left a b i = grind arith

    right : (a b : Bool) → (a || b) ≡ false → b ≡ false
    right a b i = grind arith

pub any_some : (n : ℕ) (test : ℕ → Bool) → any_below n test ≡ true → (k : ℕ) × (k < n) × (test k ≡ true)
any_some zero test h = absurd (cc)
any_some (suc n) test h = elim (cases_Bool (test n)) [
  | inl t ↦ (n, omega arith, t)
  | inr f ↦ (let r : (k : ℕ) × (k < n) × (test k ≡ true) = any_some n test (left (any_below n test) (test n) h f) in (r.0, omega (arith, r.1), r.2))
]
  where
    left : (a b : Bool) → (a || b) ≡ true → b ≡ false → a ≡ true
    left a b i j = grind arith

pub any_here : (n : ℕ) (test : ℕ → Bool) (k : ℕ) → k < n → test k ≡ true → any_below n test ≡ true
any_here zero test k l t = absurd (omega arith)
any_here (suc n) test k l t = elim (cases_lt k n) [
  | inl m ↦ or_left (any_below n test) (test n) (any_here n test k m t)
  | inr m ↦ (let e : k ≡ n = omega arith in or_right (any_below n test) (test n) (rw e at t))
]

pub or_else_none : {A : Type 0} (o p : Option A) → or_else o p ≡ None → (o ≡ None) × (p ≡ None)
or_else_none None p h = (refl, h)
or_else_none (Some a) p h = absurd (cc)

pub first_none : (n : ℕ) (test : ℕ → Bool) → first_below n test ≡ None → (k : ℕ) → k < n → test k ≡ false
first_none zero test h k l = absurd (omega arith)
first_none (suc n) test h k l = elim (cases_lt k n) [
  | inl m ↦ first_none n test (or_else_none (first_below n test) (cond (test n) (Some n) None) h).0 k m
  | inr m ↦ (let e : k ≡ n = omega arith in rw e (failed (test n) n (or_else_none (first_below n test) (cond (test n) (Some n) None) h).1))
]
  where
    failed : (b : Bool) (x : ℕ) → cond b (Some x) None ≡ None → b ≡ false
    failed true x i = absurd (cc)
    failed false x i = refl

first_passed : (b : Bool) (x k : ℕ) → cond b (Some x) None ≡ Some k → (x ≡ k) × (b ≡ true)
first_passed true x k i = (cc, refl)
first_passed false x k i = absurd (cc)

first_step : (n : ℕ) (test : ℕ → Bool) (k : ℕ) (o : Option ℕ) → or_else o (cond (test n) (Some n) None) ≡ Some k →
    (o ≡ Some k → (k < n) × (test k ≡ true)) → (k < suc n) × (test k ≡ true)
first_step n test k None i ih =
    let p : (n ≡ k) × (test n ≡ true) = first_passed (test n) n k i in
    let e : n ≡ k = p.0 in
    (omega arith, rw e at p.1)
first_step n test k (Some j) i ih = (omega (arith, (ih i).0), (ih i).1)

pub first_some : (n : ℕ) (test : ℕ → Bool) (k : ℕ) → first_below n test ≡ Some k → (k < n) × (test k ≡ true)
first_some zero test k h = absurd (cc)
first_some (suc n) test k h = first_step n test k (first_below n test) h (first_some n test k)

pub itself : (n : ℕ) → eqb n n ≡ true
itself n = grind arith

open_phase : (e : ExporterState) (i : ImporterState) → together e i ≡ true → (not (is_aborted e) && not (is_imported i)) ≡ not (is_over (phase_by e i))
open_phase e i h = grind arith

taking_phase : (e : ExporterState) (i : ImporterState) → is_started i ≡ true → is_committed e ≡ true → is_moving (phase_by e i) ≡ true
taking_phase e i h k = grind arith

moving_states : (e : ExporterState) (i : ImporterState) → together e i ≡ true → is_moving (phase_by e i) ≡ true
    → (is_started i ≡ true) × (is_committed e ≡ true)
moving_states e i h k = (grind arith, grind arith)

pub moving_open : (p : Phase) → is_moving p ≡ true → is_over p ≡ false
moving_open p h = grind arith

pub inside_near : (w : World) (x d : ℕ) → is_inside w x d ≡ true → x < length w.orders
inside_near w x d h = elim (cases_lt x (length w.orders)) [
  | inl m ↦ m
  | inr m ↦ (let k : is_among [] d ≡ true = rw (get_or_past w.orders x no_order m) at h in absurd (cc k))
]

pub holds_authority : (w : World) (r d : ℕ) → is_authority w r d ≡ true → IsAuthority w r d
holds_authority w r d h = elim (or_cases (owns w r d) (any_below (length w.orders) (λ x. is_taking_over w r x && is_inside w x d)) h) [
  | inl o ↦ inl o
  | inr a ↦ inr (let s : (x : ℕ) × (x < length w.orders) × ((is_taking_over w r x && is_inside w x d) ≡ true) =
      any_some (length w.orders) (λ x. is_taking_over w r x && is_inside w x d) a in
      let b : (is_taking_over w r s.0 ≡ true) × (is_inside w s.0 d ≡ true) = and_parts (is_taking_over w r s.0) (is_inside w s.0 d) s.2 in
      (s.0, b.0, b.1))
]

pub authority_is : (w : World) (d r : ℕ) → authority w d ≡ Some r → (r < w.ranks) × IsAuthority w r d
unfolding authority
authority_is w d r h =
    let f : (r < w.ranks) × (is_authority w r d ≡ true) = first_some w.ranks (λ s. is_authority w s d) r h in
    (f.0, holds_authority w r d f.1)

module _ (w : World) (safe : Safe w) where
  pub open_over : (x : ℕ) → is_open w x ≡ not (is_over (phase_of w x))
  open_over x = rw (safe.tables.imported (to_of w x) x, itself (to_of w x)) (open_phase (exporter_of w x) (importer_of w x) (safe.tables.paired x))

  pub taking_over : (r x : ℕ) → is_taking_over w r x ≡ true → (r ≡ to_of w x) × (is_moving (phase_of w x) ≡ true)
  taking_over r x h =
      let a : (is_importing w r x ≡ true) × (has w (from_of w x) (JournalEntry.Exported x) ≡ true) =
      and_parts (is_importing w r x) (has w (from_of w x) (JournalEntry.Exported x)) h in
      let b : (eqb r (to_of w x) ≡ true) × (is_started (importer_of w x) ≡ true) =
      and_parts (eqb r (to_of w x)) (is_started (importer_of w x)) (rw (safe.tables.importing r x) at a.0) in
      let c : (eqb (from_of w x) (from_of w x) ≡ true) × (is_committed (exporter_of w x) ≡ true) =
      and_parts (eqb (from_of w x) (from_of w x)) (is_committed (exporter_of w x)) (rw (safe.tables.exported (from_of w x) x) at a.1) in
      (eqb-true r (to_of w x) b.0, taking_phase (exporter_of w x) (importer_of w x) b.1 c.1)

  pub takes_over : (x : ℕ) → is_moving (phase_of w x) ≡ true → is_taking_over w (to_of w x) x ≡ true
  takes_over x h =
      let s : (is_started (importer_of w x) ≡ true) × (is_committed (exporter_of w x) ≡ true) =
      moving_states (exporter_of w x) (importer_of w x) (safe.tables.paired x) h in
      let a : is_importing w (to_of w x) x ≡ true = rw (safe.tables.importing (to_of w x) x, itself (to_of w x), s.0) refl in
      let b : has w (from_of w x) (JournalEntry.Exported x) ≡ true = rw (safe.tables.exported (from_of w x) x, itself (from_of w x), s.1) refl in
      and_from (is_importing w (to_of w x) x) (has w (from_of w x) (JournalEntry.Exported x)) a b

  pub no_open : (d : ℕ) → open_export w d ≡ None → (x : ℕ) → is_inside w x d ≡ true → is_over (phase_of w x) ≡ true
  unfolding open_export
  no_open d h x i =
      let f : (is_open w x && is_inside w x d) ≡ false = first_none (length w.orders) (λ y. is_open w y && is_inside w y d) h x (inside_near w x d i) in
      shut (is_over (phase_of w x)) (rw (i, open_over x) at f)
    where
      shut : (b : Bool) → (not b && true) ≡ false → b ≡ true
      shut b k = grind arith

  pub free_owner : (r d : ℕ) → IsAuthority w r d → ((x : ℕ) → is_inside w x d ≡ true → is_over (phase_of w x) ≡ true) → owns w r d ≡ true
  free_owner r d (inl o) free = o
  free_owner r d (inr t) free = absurd (cc (moving_open (phase_of w t.0) (taking_over r t.0 t.1).1, free t.0 t.2))

  -- one authority at most
  pub one_authority : (r s d : ℕ) → IsAuthority w r d → IsAuthority w s d → r ≡ s
  one_authority r s d (inl o) (inl p) = some_same (sym (safe.owning.owner_named r d o) ∙ safe.owning.owner_named s d p)
    where
      some_same : Some r ≡ Some s → r ≡ s
      some_same e = cc
  one_authority r s d (inl o) (inr t) = absurd (cc (o, safe.owning.moving t.0 r d t.2 (taking_over s t.0 t.1).1))
  one_authority r s d (inr t) (inl o) = absurd (cc (o, safe.owning.moving t.0 s d t.2 (taking_over r t.0 t.1).1))
  one_authority r s d (inr t) (inr u) =
      let a : (r ≡ to_of w t.0) × (is_moving (phase_of w t.0) ≡ true) = taking_over r t.0 t.1 in
      let b : (s ≡ to_of w u.0) × (is_moving (phase_of w u.0) ≡ true) = taking_over s u.0 u.1 in
      a.0 ∙ (ap (to_of w) (safe.owning.one_export t.0 u.0 d t.2 u.2 (moving_open (phase_of w t.0) a.1) (moving_open (phase_of w u.0) b.1)) ∙ sym b.0)

  -- and one at least
  pub some_authority : (d r : ℕ) → named_of w d ≡ Some r → (s : ℕ) × IsAuthority w s d
  some_authority d r h = elim (cases_Bool (owns w r d)) [
    | inl o ↦ (r, inl o)
    | inr n ↦ (let m : (x : ℕ) × (is_inside w x d ≡ true) × (is_moving (phase_of w x) ≡ true) = safe.owning.named_owns r d h n in
        (to_of w m.0, inr (m.0, takes_over m.0 m.2, m.1)))
  ]

-- an open export's directories are there
pub inside_there : (w : World) → Safe w → (x : ℕ) → is_over (phase_of w x) ≡ false → (d : ℕ) → is_inside w x d ≡ true → d < length w.parents
inside_there w safe x o d i = elim (cases_lt d (length w.parents)) [
  | inl m ↦ m
  | inr m ↦ absurd (differ (sym (get_or_past w.named d None (omega (arith, safe.numbered))) ∙ safe.owning.placed x d i o))
]
  where
    differ : None ≡ Some (place (from_of w x) (to_of w x) (phase_of w x)) → ⊥
    differ e = cc

pub before_over : (e : ExporterState) (j : ImporterState) → is_before_log e ≡ true → is_over (phase_by e j) ≡ false
before_over e j h = grind arith
