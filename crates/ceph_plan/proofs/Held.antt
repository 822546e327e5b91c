-- What each hold says of its row under the rule.
use Rattle.std.proofs.Common.{◌≡◌, ℕ, zero, suc, ◌+◌, ◌-◌, ◌<◌, ◌≤◌, List, length, Bool, true, false, cond}
use Rattle.std.proofs.Common.{eqb, Option, Some, None, refl, ap, sym, ◌∙◌, arith, ⊎_elim, ◌⊎◌, inl, inr, subst}
use Rattle.std.specs.Prelude.{is_some}
use Rattle.std.proofs.lemmas.Bool.{cases_lt, cases_Bool, eqb-true, both_ways}
use Rattle.std.proofs.lemmas.List.{get_or_past}
use Rattle.ceph_plan.specs.declared.row.PinRow.{PinRow}
use Rattle.ceph_plan.specs.declared.hold.Hold.{Hold}
use Rattle.ceph_plan.specs.declared.hold.Hold.TheVariants.{Foreign, Free, Own, Above}
use Rattle.ceph_plan.specs.Rule.{AreRows, IsAt, IsFree, IsNearest, IsOurs, climb, first_of, foreign_at, own_pin, parent_at, pin_at, rest_at, row_at, target_at}
use Rattle.ceph_plan.specs.Holds.{HoldEach, hold_at, hold_below, hold_of, is_own, pins_below, rests_at}
use Rattle.ceph_plan.proofs.Climbs.{climb-root, climb-add, free_below, nearest_below, nearest_own, some_none}
use Rattle.ceph_plan.proofs.PinList.{pin_at-below, pin_at-past}

-- the pins are the foreign ones, and one at each row that has a new one
pub record IsOwnBy (rows : List PinRow) (holds : List Hold) (own : ℕ → Option ℕ) : Type 0 where
  pub foreign : (i r : ℕ) → foreign_at rows i ≡ Some r → own i ≡ Some r
  pub mine : (i : ℕ) → foreign_at rows i ≡ None → own i ≡ cond (is_own (hold_at holds i)) (Some (target_at rows i)) None

first_some : (a b : Option ℕ) (r : ℕ) → a ≡ Some r → first_of a b ≡ Some r
first_some None b r e = absurd (some_none None r e refl)
first_some (Some x) b r e = e

first_none : (a b : Option ℕ) → a ≡ None → first_of a b ≡ b
first_none None b e = refl
first_none (Some x) b e = absurd (some_none (Some x) x refl e)

pub own_by : (rows : List PinRow) (holds : List Hold) → HoldEach rows holds → IsOwnBy rows holds (own_pin rows (pins_below rows holds (length rows)))
own_by rows holds are = record {
  foreign = λ i r e. first_some (foreign_at rows i) (pin_at (pins_below rows holds (length rows)) i) r e;
  mine = λ i e. first_none (foreign_at rows i) (pin_at (pins_below rows holds (length rows)) i) e
      ∙ ⊎_elim (λ (inside : i < length rows). pin_at-below rows holds (length rows) i inside)
      (λ (past : length rows ≤ i).
      let none : hold_at holds i ≡ Free = get_or_past holds i Free (omega (arith, are.size, past)) in
      rw none (pin_at-past rows holds (length rows) i past))
      (cases_lt i (length rows));
}

-- why a row has a pin of its own: no pin is above it, and it doesn't rest at its target; or its parent is pinned elsewhere
pub record IsForced (rows : List PinRow) (own : ℕ → Option ℕ) (i : ℕ) : Type 0 where
  pub reason :
      (IsFree rows own (parent_at rows i) × (rest_at rows (parent_at rows i) ≡ Some (target_at rows (parent_at rows i)))
      × (rests_at (rest_at rows i) (target_at rows i) ≡ false))
      ⊎ (IsNearest rows own (parent_at rows i) (target_at rows (parent_at rows i)) × (eqb (target_at rows i) (target_at rows (parent_at rows i)) ≡ false))

abbrev pub IsHeld : List PinRow → (ℕ → Option ℕ) → ℕ → Hold → Type 0
IsHeld rows own i Foreign = (n : ℕ) × ((r : ℕ) × (foreign_at rows (climb rows n i) ≡ Some r))
IsHeld rows own i Free = IsFree rows (foreign_at rows) i × IsFree rows own i × (rest_at rows i ≡ Some (target_at rows i))
IsHeld rows own i Own = IsFree rows (foreign_at rows) i × (own i ≡ Some (target_at rows i)) × IsForced rows own i
IsHeld rows own i Above = IsFree rows (foreign_at rows) i × IsNearest rows own i (target_at rows i) × (own i ≡ None)

pub rests_is : (o : Option ℕ) (t : ℕ) → rests_at o t ≡ true → o ≡ Some t
rests_is None t e = absurd (both_ways false refl e)
rests_is (Some r) t e = ap (λ (x : ℕ). Some x) (eqb-true r t e)

-- one step down
step : (rows : List PinRow) (own : ℕ → Option ℕ) (i : ℕ) (h : Hold) (rests same : Bool) → foreign_at rows i ≡ None
    → IsHeld rows own (parent_at rows i) h → own i ≡ cond (is_own (hold_below h rests same)) (Some (target_at rows i)) None
    → rests_at (rest_at rows i) (target_at rows i) ≡ rests → eqb (target_at rows i) (target_at rows (parent_at rows i)) ≡ same
    → IsHeld rows own i (hold_below h rests same)
step rows own i Foreign rests same free held here r s = (suc held.0, (held.1.0, held.1.1))
step rows own i Free true same free held here r s =
    (free_below rows (foreign_at rows) i free held.0, free_below rows own i here held.1, rests_is (rest_at rows i) (target_at rows i) r)
step rows own i Free false same free held here r s =
    (free_below rows (foreign_at rows) i free held.0, here, record { reason = inl (held.1, held.2, r) })
step rows own i Own rests true free held here r s =
    let is : target_at rows (parent_at rows i) ≡ target_at rows i = sym (eqb-true (target_at rows i) (target_at rows (parent_at rows i)) s) in
    let near : IsNearest rows own (parent_at rows i) (target_at rows (parent_at rows i)) =
    nearest_own rows own (parent_at rows i) (target_at rows (parent_at rows i)) held.1 in (
      free_below rows (foreign_at rows) i free held.0,
      nearest_below rows own i (target_at rows i) here
          (subst (λ (t : ℕ). IsNearest rows own (parent_at rows i) t) is near),
      here,
    )
step rows own i Own rests false free held here r s = (
  free_below rows (foreign_at rows) i free held.0,
  here,
  record { reason = inr (nearest_own rows own (parent_at rows i) (target_at rows (parent_at rows i)) held.1, s) },
)
step rows own i Above rests true free held here r s =
    let is : target_at rows (parent_at rows i) ≡ target_at rows i = sym (eqb-true (target_at rows i) (target_at rows (parent_at rows i)) s) in (
      free_below rows (foreign_at rows) i free held.0,
      nearest_below rows own i (target_at rows i) here
          (subst (λ (t : ℕ). IsNearest rows own (parent_at rows i) t) is held.1),
      here,
    )
step rows own i Above rests false free held here r s =
    (free_below rows (foreign_at rows) i free held.0, here, record { reason = inr (held.1, s) })

pub some_or_none : (o : Option ℕ) → ((r : ℕ) × (o ≡ Some r)) ⊎ (o ≡ None)
some_or_none None = inr refl
some_or_none (Some r) = inl (r, refl)

at_root : (rows : List PinRow) (holds : List Hold) (own : ℕ → Option ℕ) → AreRows rows → IsOwnBy rows holds own → hold_at holds 0 ≡ Free
    → 0 < length rows → IsHeld rows own 0 Free
at_root rows holds own are by root l =
    let none : own 0 ≡ None = by.mine 0 are.root_free ∙ (rw root refl) in (
      record { none = λ n. ap (λ (k : ℕ). foreign_at rows k) (climb-root rows n are) ∙ are.root_free },
      record { none = λ n. ap own (climb-root rows n are) ∙ none },
      are.root_rests l,
    )

below_root : (rows : List PinRow) (holds : List Hold) (own : ℕ → Option ℕ) (i : ℕ) → IsOwnBy rows holds own
    → hold_at holds i ≡ hold_of (row_at rows i) (row_at rows (parent_at rows i)) (hold_at holds (parent_at rows i))
    → IsHeld rows own (parent_at rows i) (hold_at holds (parent_at rows i)) → IsHeld rows own i (hold_at holds i)
below_root rows holds own i by is held =
    ⊎_elim (λ (some : (r : ℕ) × (foreign_at rows i ≡ Some r)).
    let here : is_some (foreign_at rows i) ≡ true = ap is_some some.1 in
    let hold : hold_at holds i ≡ Foreign = is ∙ (rw here refl) in
    subst (λ (h : Hold). IsHeld rows own i h) (sym hold) (0, (some.0, some.1)))
    (λ (none : foreign_at rows i ≡ None).
    let here : is_some (foreign_at rows i) ≡ false = ap is_some none in
    let hold : hold_at holds i ≡ hold_below (hold_at holds (parent_at rows i)) (rests_at (rest_at rows i) (target_at rows i))
    (eqb (target_at rows i) (target_at rows (parent_at rows i))) = is ∙ (rw here refl) in
    subst (λ (h : Hold). IsHeld rows own i h) (sym hold)
    (step rows own i (hold_at holds (parent_at rows i)) (rests_at (rest_at rows i) (target_at rows i))
    (eqb (target_at rows i) (target_at rows (parent_at rows i))) none held
    (by.mine i none ∙ ap (λ (h : Hold). cond (is_own h) (Some (target_at rows i)) None) hold) refl refl))
    (some_or_none (foreign_at rows i))

up_to : (rows : List PinRow) (holds : List Hold) (own : ℕ → Option ℕ) → HoldEach rows holds → IsOwnBy rows holds own → (n i : ℕ) → i < n
    → i < length rows → IsHeld rows own i (hold_at holds i)
up_to rows holds own are by zero i less l = let none : ⊥ = omega (arith, less) in absurd none
up_to rows holds own are by (suc n) zero less l =
    let root : hold_at holds 0 ≡ Free = are.each.root l in
    subst (λ (h : Hold). IsHeld rows own 0 h) (sym root) (at_root rows holds own are.are by root l)
up_to rows holds own are by (suc n) (suc i) less l =
    let up : parent_at rows (suc i) < suc i = are.are.above (suc i) (omega arith) l in
    below_root rows holds own (suc i) by (are.each.below (suc i) (omega arith) l)
    (up_to rows holds own are by n (parent_at rows (suc i)) (omega (arith, up, less)) (omega (arith, up, l)))

pub held : (rows : List PinRow) (holds : List Hold) (own : ℕ → Option ℕ) → HoldEach rows holds → IsOwnBy rows holds own → (i : ℕ)
    → i < length rows → IsHeld rows own i (hold_at holds i)
held rows holds own are by i l = up_to rows holds own are by (suc i) i (omega arith) l

at_target : (rows : List PinRow) (own : ℕ → Option ℕ) (i : ℕ) (h : Hold) → IsOurs rows i → IsHeld rows own i h → IsAt rows own i (target_at rows i)
at_target rows own i Foreign ours held = absurd (some_none (foreign_at rows (climb rows held.0 i)) held.1.0 held.1.1 (ours.free.none held.0))
at_target rows own i Free ours held = inr (held.1, held.2)
at_target rows own i Own ours held = inl (nearest_own rows own i (target_at rows i) held.1)
at_target rows own i Above ours held = inl held.1

pub realized : (rows : List PinRow) (holds : List Hold) (own : ℕ → Option ℕ) → HoldEach rows holds → IsOwnBy rows holds own → (i : ℕ)
    → IsOurs rows i → IsAt rows own i (target_at rows i)
realized rows holds own are by i ours =
    at_target rows own i (hold_at holds i) ours (held rows holds own are by i ours.inside)

own_hold : (h : Hold) → is_own h ≡ true → h ≡ Own
own_hold Foreign e = absurd (both_ways false refl e)
own_hold Free e = absurd (both_ways false refl e)
own_hold Own e = refl
own_hold Above e = absurd (both_ways false refl e)

-- a row with a new pin is within the rows, and why it has one
pub own_inside : (rows : List PinRow) (holds : List Hold) (i : ℕ) → HoldEach rows holds → is_own (hold_at holds i) ≡ true → i < length rows
own_inside rows holds i are is =
    ⊎_elim (λ (inside : i < length rows). inside)
    (λ (past : length rows ≤ i).
    let none : hold_at holds i ≡ Free = get_or_past holds i Free (omega (arith, are.size, past)) in
    absurd (both_ways (is_own (hold_at holds i)) (ap is_own none) is))
    (cases_lt i (length rows))

pub own_held : (rows : List PinRow) (holds : List Hold) (own : ℕ → Option ℕ) (i : ℕ) → HoldEach rows holds → IsOwnBy rows holds own
    → is_own (hold_at holds i) ≡ true → IsHeld rows own i Own
own_held rows holds own i are by is =
    subst (λ (h : Hold). IsHeld rows own i h) (own_hold (hold_at holds i) is)
    (held rows holds own are by i (own_inside rows holds i are is))

-- the root has no new pin
pub own_below : (rows : List PinRow) (holds : List Hold) (i : ℕ) → HoldEach rows holds → is_own (hold_at holds i) ≡ true → 0 < i
own_below rows holds zero are is =
    absurd (both_ways (is_own (hold_at holds 0)) (ap is_own (are.each.root (own_inside rows holds 0 are is))) is)
own_below rows holds (suc i) are is = omega arith

-- foreign pins hold what they held
no_own : (rows : List PinRow) (holds : List Hold) (own : ℕ → Option ℕ) (i : ℕ) → HoldEach rows holds → IsOwnBy rows holds own → (n r : ℕ)
    → foreign_at rows (climb rows n i) ≡ Some r → foreign_at rows i ≡ None → own i ≡ None
no_own rows holds own i are by n r above here =
    ⊎_elim (λ (is : is_own (hold_at holds i) ≡ true).
    let held_by : IsHeld rows own i Own = own_held rows holds own i are by is in
    absurd (some_none (foreign_at rows (climb rows n i)) r above (held_by.0.none n)))
    (λ (is : is_own (hold_at holds i) ≡ false). by.mine i here ∙ (rw is refl))
    (cases_Bool (is_own (hold_at holds i)))

pub kept : (rows : List PinRow) (holds : List Hold) (own : ℕ → Option ℕ) → HoldEach rows holds → IsOwnBy rows holds own → (i r : ℕ)
    → IsNearest rows (foreign_at rows) i r → IsNearest rows own i r
kept rows holds own are by i r near = record {
  steps = near.steps;
  pin = by.foreign (climb rows near.steps i) r near.pin;
  nearer = λ n l.
      let way : n + (near.steps - n) ≡ near.steps = omega (arith, l) in
      let there : foreign_at rows (climb rows (near.steps - n) (climb rows n i)) ≡ Some r =
      ap (λ (k : ℕ). foreign_at rows k) (sym (climb-add rows n (near.steps - n) i) ∙ ap (λ (k : ℕ). climb rows k i) way) ∙ near.pin in
      no_own rows holds own (climb rows n i) are by (near.steps - n) r there (near.nearer n l);
}
