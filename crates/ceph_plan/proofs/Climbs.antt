-- Climbs from a row, and where pins put a row.
use Rattle.std.proofs.Common.{◌≡◌, ℕ, zero, suc, ◌+◌, ◌<◌, ◌≤◌, List, length, Option, Some, None, refl, ap, ◌∙◌, arith, inl, inr}
use Rattle.std.proofs.lemmas.Bool.{cases_order}
use Rattle.ceph_plan.specs.declared.row.PinRow.{PinRow}
use Rattle.ceph_plan.specs.Rule.{AreRows, IsFree, IsNearest, climb, parent_at}

pub parent-le : (rows : List PinRow) (i : ℕ) → AreRows rows → i < length rows → parent_at rows i ≤ i
parent-le rows zero are l = let root : parent_at rows 0 ≡ 0 = are.root in omega (arith, root)
parent-le rows (suc i) are l = omega (arith, are.above (suc i) (omega arith) l)

pub climb-le : (rows : List PinRow) (steps i : ℕ) → AreRows rows → i < length rows → climb rows steps i ≤ i
climb-le rows zero i are l = omega arith
climb-le rows (suc n) i are l =
    let up : parent_at rows i ≤ i = parent-le rows i are l in
    omega (arith, climb-le rows n (parent_at rows i) are (omega (arith, up, l)), up)

pub climb-root : (rows : List PinRow) (steps : ℕ) → AreRows rows → climb rows steps 0 ≡ 0
climb-root rows zero are = refl
climb-root rows (suc n) are = ap (λ (i : ℕ). climb rows n i) are.root ∙ climb-root rows n are

pub climb-add : (rows : List PinRow) (m n i : ℕ) → climb rows (m + n) i ≡ climb rows n (climb rows m i)
climb-add rows zero n i = let same : 0 + n ≡ n = omega arith in ap (λ (k : ℕ). climb rows k i) same
climb-add rows (suc m) n i =
    let same : suc m + n ≡ suc (m + n) = omega arith in
    ap (λ (k : ℕ). climb rows k i) same ∙ climb-add rows m n (parent_at rows i)

pub some_none : (o : Option ℕ) (r : ℕ) → o ≡ Some r → o ≡ None → ⊥
some_none o r some none = cc

pub same_some : (o : Option ℕ) (r t : ℕ) → o ≡ Some r → o ≡ Some t → r ≡ t
same_some o r t p q = cc

-- one rank decides
pub nearest_once : (rows : List PinRow) (own : ℕ → Option ℕ) (i r t : ℕ) → IsNearest rows own i r → IsNearest rows own i t → r ≡ t
nearest_once rows own i r t a b =
    elim (cases_order a.steps b.steps) [
      | inl same ↦
          same_some (own (climb rows a.steps i)) r t a.pin
          (ap (λ (k : ℕ). own (climb rows k i)) same ∙ b.pin)
      | inr (inl less) ↦ absurd (some_none (own (climb rows a.steps i)) r a.pin (b.nearer a.steps less))
      | inr (inr more) ↦ absurd (some_none (own (climb rows b.steps i)) t b.pin (a.nearer b.steps more))
    ]

pub not_free : (rows : List PinRow) (own : ℕ → Option ℕ) (i r : ℕ) → IsNearest rows own i r → IsFree rows own i → ⊥
not_free rows own i r near free = some_none (own (climb rows near.steps i)) r near.pin (free.none near.steps)

-- a row without a pin of its own is as its parent
none_here : (rows : List PinRow) (own : ℕ → Option ℕ) (i : ℕ) → own i ≡ None → IsFree rows own (parent_at rows i) → (n : ℕ) → own (climb rows n i) ≡ None
none_here rows own i here free zero = here
none_here rows own i here free (suc n) = free.none n

pub free_below : (rows : List PinRow) (own : ℕ → Option ℕ) (i : ℕ) → own i ≡ None → IsFree rows own (parent_at rows i) → IsFree rows own i
free_below rows own i here free = record { none = none_here rows own i here free }

pub free_above : (rows : List PinRow) (own : ℕ → Option ℕ) (i : ℕ) → IsFree rows own i → IsFree rows own (parent_at rows i)
free_above rows own i free = record { none = λ n. free.none (suc n) }

nearer_here : (rows : List PinRow) (own : ℕ → Option ℕ) (i r : ℕ) → own i ≡ None → (near : IsNearest rows own (parent_at rows i) r)
    → (n : ℕ) → n < suc near.steps → own (climb rows n i) ≡ None
nearer_here rows own i r here near zero l = here
nearer_here rows own i r here near (suc n) l = near.nearer n (omega arith)

pub nearest_below : (rows : List PinRow) (own : ℕ → Option ℕ) (i r : ℕ) → own i ≡ None → IsNearest rows own (parent_at rows i) r → IsNearest rows own i r
nearest_below rows own i r here near =
    record { steps = suc near.steps; pin = near.pin; nearer = nearer_here rows own i r here near }

above_by : (rows : List PinRow) (own : ℕ → Option ℕ) (i r steps : ℕ) → own i ≡ None → own (climb rows steps i) ≡ Some r
    → ((n : ℕ) → n < steps → own (climb rows n i) ≡ None) → IsNearest rows own (parent_at rows i) r
above_by rows own i r zero here pin nearer = absurd (some_none (own i) r pin here)
above_by rows own i r (suc n) here pin nearer =
    record { steps = n; pin = pin; nearer = λ m l. nearer (suc m) (omega (arith, l)) }

pub nearest_above : (rows : List PinRow) (own : ℕ → Option ℕ) (i r : ℕ) → own i ≡ None → IsNearest rows own i r → IsNearest rows own (parent_at rows i) r
nearest_above rows own i r here near = above_by rows own i r near.steps here near.pin near.nearer

pub nearest_own : (rows : List PinRow) (own : ℕ → Option ℕ) (i r : ℕ) → own i ≡ Some r → IsNearest rows own i r
nearest_own rows own i r here =
    record { steps = 0; pin = here; nearer = λ n l. let none : ⊥ = omega (arith, l) in absurd none }
