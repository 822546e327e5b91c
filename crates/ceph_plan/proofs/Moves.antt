-- Why no row goes by way of a third rank.
use Rattle.std.proofs.Common.{◌≡◌, ℕ, ◌+◌, ◌-◌, ◌<◌, ◌≤◌, List, length, cond, nat_lt, Option, Some, None, refl, ap, sym, ◌∙◌, arith, ⊎_elim, ◌⊎◌, inl, inr}
use Rattle.std.proofs.lemmas.Bool.{cases_lt, lt-ltb, le-ltb}
use Rattle.ceph_plan.specs.declared.row.PinRow.{PinRow}
use Rattle.ceph_plan.specs.Rule.{AreRows, IsAt, IsNearest, climb, first_of}
use Rattle.ceph_plan.specs.Changes.{while_set, while_unset}
use Rattle.ceph_plan.proofs.Climbs.{climb-add, climb-le, some_none}

first_none : (a b : Option ℕ) → first_of a b ≡ None → (a ≡ None) × (b ≡ None)
first_none None b e = (refl, e)
first_none (Some x) b e = absurd (some_none (Some x) x refl e)

first_some : (a b : Option ℕ) (r : ℕ) → first_of a b ≡ Some r → (a ≡ Some r) ⊎ ((a ≡ None) × (b ≡ Some r))
first_some None b r e = inr (refl, e)
first_some (Some x) b r e = inl e

climb-falls : (rows : List PinRow) (n s i : ℕ) → AreRows rows → i < length rows → n ≤ s → climb rows s i ≤ climb rows n i
climb-falls rows n s i are l le =
    let way : n + (s - n) ≡ s = omega (arith, le) in
    let low : climb rows n i ≤ i = climb-le rows n i are l in
    let more : climb rows (s - n) (climb rows n i) ≤ climb rows n i = climb-le rows (s - n) (climb rows n i) are (omega (arith, low, l)) in
    let same : climb rows s i ≡ climb rows (s - n) (climb rows n i) = ap (λ (k : ℕ). climb rows k i) (sym way) ∙ climb-add rows n (s - n) i in
    omega (arith, more, same)

-- these pins for the rows below one; at it and past it the new ones, or the old ones where there is none
abbrev mixed : (ℕ → Option ℕ) → (ℕ → Option ℕ) → (ℕ → Option ℕ) → ℕ → ℕ → Option ℕ
mixed low old new at j = cond (nat_lt j at) (low j) (first_of (new j) (old j))

below_is : (a b : Option ℕ) (j at : ℕ) → j < at → cond (nat_lt j at) a b ≡ a
below_is a b j at l = rw (lt-ltb j at l) refl

above_is : (a b : Option ℕ) (j at : ℕ) → at ≤ j → cond (nat_lt j at) a b ≡ b
above_is a b j at l = rw (le-ltb j at l) refl

high_is : (low old new : ℕ → Option ℕ) (at j : ℕ) (o : Option ℕ) → at ≤ j → mixed low old new at j ≡ o → first_of (new j) (old j) ≡ o
high_is low old new at j o high e = sym (above_is (low j) (first_of (new j) (old j)) j at high) ∙ e

-- where neither has a pin the first rows have none
abbrev IsBetween : (ℕ → Option ℕ) → (ℕ → Option ℕ) → (ℕ → Option ℕ) → Type 0
IsBetween low old new = (j : ℕ) → new j ≡ None → old j ≡ None → low j ≡ None

low_none : (low old new : ℕ → Option ℕ) (at j : ℕ) → IsBetween low old new → mixed low old new at j ≡ None → low j ≡ None
low_none low old new at j between e =
    ⊎_elim (λ (low_row : j < at). sym (below_is (low j) (first_of (new j) (old j)) j at low_row) ∙ e)
    (λ (high : at ≤ j). let none = first_none (new j) (old j) (high_is low old new at j None high e) in between j none.0 none.1)
    (cases_lt j at)

once : (rows : List PinRow) (low old new : ℕ → Option ℕ) (at i r : ℕ) → AreRows rows → i < length rows → IsBetween low old new
    → IsNearest rows (mixed low old new at) i r → IsNearest rows low i r ⊎ (IsNearest rows old i r ⊎ IsNearest rows new i r)
once rows low old new at i r are l between near =
    let top : ℕ = climb rows near.steps i in
    ⊎_elim (λ (low_row : top < at).
    inl (record {
      steps = near.steps;
      pin = sym (below_is (low top) (first_of (new top) (old top)) top at low_row) ∙ near.pin;
      nearer = λ n le. low_none low old new at (climb rows n i) between (near.nearer n le);
    }))
    (λ (high : at ≤ top).
    let none : (n : ℕ) → n < near.steps → (new (climb rows n i) ≡ None) × (old (climb rows n i) ≡ None) = λ n le.
    first_none (new (climb rows n i)) (old (climb rows n i)) (high_is low old new at (climb rows n i) None
    (omega (arith, high, climb-falls rows n near.steps i are l (let less : n ≤ near.steps = omega (arith, le) in less))) (near.nearer n le)) in
    inr (elim (first_some (new top) (old top) r (high_is low old new at top (Some r) high near.pin)) [
      | inl is ↦ inr (record { steps = near.steps; pin = is; nearer = λ n le. (none n le).0 })
      | inr is ↦ inl (record { steps = near.steps; pin = is.1; nearer = λ n le. (none n le).1 })
    ]))
    (cases_lt top at)

-- the same where no pin may hold the row
once_at : (rows : List PinRow) (low old new : ℕ → Option ℕ) (at i r : ℕ) → AreRows rows → i < length rows → IsBetween low old new
    → IsAt rows (mixed low old new at) i r → IsAt rows low i r ⊎ (IsAt rows old i r ⊎ IsAt rows new i r)
once_at rows low old new at i r are l between (inl near) = elim (once rows low old new at i r are l between near) [
  | inl first ↦ inl (inl first)
  | inr other ↦ inr (elim other [ inl before ↦ inl (inl before) | inr after ↦ inr (inl after) ])
]
once_at rows low old new at i r are l between (inr free) =
    inl (inr (record { none = λ n. low_none low old new at (climb rows n i) between (free.0.none n) }, free.1))

pub set_at : (rows : List PinRow) (old new : ℕ → Option ℕ) (at i r : ℕ) → AreRows rows → i < length rows
    → IsAt rows (while_set old new at) i r → IsAt rows old i r ⊎ IsAt rows new i r
set_at rows old new at i r are l there = elim (once_at rows old old new at i r are l (λ j new_none old_none. old_none) there)
    [ inl before ↦ inl before | inr either ↦ either ]

pub unset_at : (rows : List PinRow) (old new : ℕ → Option ℕ) (at i r : ℕ) → AreRows rows → i < length rows
    → IsAt rows (while_unset old new at) i r → IsAt rows old i r ⊎ IsAt rows new i r
unset_at rows old new at i r are l there = elim (once_at rows new old new at i r are l (λ j new_none old_none. new_none) there)
    [ inl after ↦ inr after | inr either ↦ either ]
