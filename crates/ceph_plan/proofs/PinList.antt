-- The list of pins, as a look-up and by its places.
use Rattle.std.proofs.Common.{◌≡◌, ◌≢◌, ℕ, zero, suc, ◌<◌, ◌≤◌, List, [], ◌∷◌, ◌++◌, length, Bool, true}
use Rattle.std.proofs.Common.{false, cond, eqb, Some, None, refl, ap, sym, subst, ◌-◌, ◌∙◌, arith, ⊎_elim}
use Rattle.std.proofs.lemmas.List.{append_assoc}
use Rattle.std.proofs.lemmas.Bool.{cases_eq, eq-eqb, ne_eqb}
use Rattle.ceph_plan.specs.declared.row.PinRow.{PinRow}
use Rattle.ceph_plan.specs.declared.row.Pin.{Pin}
use Rattle.ceph_plan.specs.declared.hold.Hold.{Hold}
use Rattle.ceph_plan.specs.Rule.{pin_at, pin_index, row_index, target_at}
use Rattle.ceph_plan.specs.Holds.{hold_at, is_own, pins_below}

step : (b : Bool) (pin : Pin) (pins : List Pin) (i : ℕ)
    → pin_at (cond b (pin ∷ []) [] ++ pins) i ≡ cond b (cond (eqb pin.row i) (Some pin.rank) (pin_at pins i)) (pin_at pins i)
step true pin pins i = refl
step false pin pins i = refl

both : {X : Type 0} (b : Bool) (x : X) → cond b x x ≡ x
both true x = refl
both false x = refl

pub pin_at-past : (rows : List PinRow) (holds : List Hold) (n i : ℕ) → n ≤ i → pin_at (pins_below rows holds n) i ≡ None
pin_at-past rows holds zero i l = refl
pin_at-past rows holds (suc n) i l =
    let other : eqb n i ≡ false = ne_eqb n i (λ same. omega (arith, same, l)) in
    let rest : pin_at (pins_below rows holds n) i ≡ None = pin_at-past rows holds n i (omega (arith, l)) in
    step (is_own (hold_at holds n)) (record { row = n; rank = target_at rows n }) (pins_below rows holds n) i
    ∙ (rw (other, rest) (both (is_own (hold_at holds n)) None))

pub pin_at-below : (rows : List PinRow) (holds : List Hold) (n i : ℕ) → i < n
    → pin_at (pins_below rows holds n) i ≡ cond (is_own (hold_at holds i)) (Some (target_at rows i)) None
pin_at-below rows holds zero i l = let none : ⊥ = omega (arith, l) in absurd none
pin_at-below rows holds (suc n) i l =
    step (is_own (hold_at holds n)) (record { row = n; rank = target_at rows n }) (pins_below rows holds n) i
    ∙ ⊎_elim (λ (same : n ≡ i).
    let here : eqb n i ≡ true = eq-eqb n i same in
    let rest : pin_at (pins_below rows holds n) i ≡ None = pin_at-past rows holds n i (omega (arith, same)) in
    rw (here, rest, same) refl)
    (λ (other : n ≢ i).
    let not_here : eqb n i ≡ false = ne_eqb n i other in
    rw not_here (both (is_own (hold_at holds n)) (pin_at (pins_below rows holds n) i)
    ∙ pin_at-below rows holds n i (omega (arith, l, other))))
    (cases_eq n i)

-- each pin of the list is that of a row with a new one
each_step : (rows : List PinRow) (P : Pin → Type 0) (b : Bool) (pin : Pin) (pins : List Pin) → (b ≡ true → P pin)
    → ((p : ℕ) → p < length pins → P (pin_index pins p)) → (p : ℕ) → p < length (cond b (pin ∷ []) [] ++ pins)
    → P (pin_index (cond b (pin ∷ []) [] ++ pins) p)
each_step rows P true pin pins here rest zero l = here refl
each_step rows P true pin pins here rest (suc p) l = rest p (omega (arith, l))
each_step rows P false pin pins here rest p l = rest p l

pub each_pin : (rows : List PinRow) (holds : List Hold) (P : Pin → Type 0) (n : ℕ)
    → ((i : ℕ) → i < n → is_own (hold_at holds i) ≡ true → P (record { row = i; rank = target_at rows i })) → (p : ℕ)
    → p < length (pins_below rows holds n) → P (pin_index (pins_below rows holds n) p)
each_pin rows holds P zero h p l = let none : ⊥ = omega (arith, l) in absurd none
each_pin rows holds P (suc n) h p l =
    each_step rows P (is_own (hold_at holds n)) (record { row = n; rank = target_at rows n }) (pins_below rows holds n)
    (h n (omega arith)) (each_pin rows holds P n (λ i le is. h i (omega (arith, le)) is)) p l

pub row-below : (rows : List PinRow) (holds : List Hold) (n p : ℕ) → p < length (pins_below rows holds n) → row_index (pins_below rows holds n) p < n
row-below rows holds n p l = each_pin rows holds (λ pin. pin.row < n) n (λ i le is. le) p l

fall_step : (b : Bool) (pin : Pin) (pins : List Pin) → ((p : ℕ) → p < length pins → row_index pins p < pin.row)
    → ((p q : ℕ) → p < q → q < length pins → row_index pins q < row_index pins p) → (p q : ℕ) → p < q
    → q < length (cond b (pin ∷ []) [] ++ pins) → row_index (cond b (pin ∷ []) [] ++ pins) q < row_index (cond b (pin ∷ []) [] ++ pins) p
fall_step true pin pins below rest p zero less l = let none : ⊥ = omega (arith, less) in absurd none
fall_step true pin pins below rest zero (suc q) less l = below q (omega (arith, l))
fall_step true pin pins below rest (suc p) (suc q) less l = rest p q (omega (arith, less)) (omega (arith, l))
fall_step false pin pins below rest p q less l = rest p q less l

-- the rows of the list fall
pub falling : (rows : List PinRow) (holds : List Hold) (n p q : ℕ) → p < q → q < length (pins_below rows holds n)
    → row_index (pins_below rows holds n) q < row_index (pins_below rows holds n) p
falling rows holds zero p q less l = let none : ⊥ = omega (arith, l) in absurd none
falling rows holds (suc n) p q less l =
    fall_step (is_own (hold_at holds n)) (record { row = n; rank = target_at rows n }) (pins_below rows holds n)
    (row-below rows holds n) (falling rows holds n) p q less l

pub before-inside : (i n : ℕ) → 0 < i → i ≤ n → i - 1 < n
before-inside i n some inside = omega arith

-- one more row is done, which has one more of them or none
pub with_one : {X : Type 0} (done rest all : List X) (x : X) (b : Bool) → done ++ (cond b (x ∷ []) [] ++ rest) ≡ all → b ≡ true → (done ++ x ∷ []) ++ rest ≡ all
with_one done rest all x b is set = append_assoc done (x ∷ []) rest ∙ (sym (ap (λ (some : Bool). done ++ (cond some (x ∷ []) [] ++ rest)) set) ∙ is)

pub with_none : {X : Type 0} (done rest all : List X) (x : X) (b : Bool) → done ++ (cond b (x ∷ []) [] ++ rest) ≡ all → b ≡ false → done ++ rest ≡ all
with_none done rest all x b is unset = sym (ap (λ (some : Bool). done ++ (cond some (x ∷ []) [] ++ rest)) unset) ∙ is

pub more-before : (i : ℕ) → 0 < i → i ≡ suc (i - 1)
more-before i l = omega (arith, l)

-- a row that has a pin, and one that has none
pub with_pin : (rows : List PinRow) (holds : List Hold) (done all : List Pin) (i : ℕ) → 0 < i → done ++ pins_below rows holds i ≡ all
    → is_own (hold_at holds (i - 1)) ≡ true → (done ++ record { row = i - 1; rank = target_at rows (i - 1) } ∷ [])
    ++ pins_below rows holds (i - 1) ≡ all
with_pin rows holds done all i l is own = with_one done (pins_below rows holds (i - 1)) all
    (record { row = i - 1; rank = target_at rows (i - 1) }) (is_own (hold_at holds (i - 1)))
    (subst (λ (n : ℕ). done ++ pins_below rows holds n ≡ all) (more-before i l) is) own

pub with_no_pin : (rows : List PinRow) (holds : List Hold) (done all : List Pin) (i : ℕ) → 0 < i → done ++ pins_below rows holds i ≡ all
    → is_own (hold_at holds (i - 1)) ≡ false → done ++ pins_below rows holds (i - 1) ≡ all
with_no_pin rows holds done all i l is own = with_none done (pins_below rows holds (i - 1)) all
    (record { row = i - 1; rank = target_at rows (i - 1) }) (is_own (hold_at holds (i - 1)))
    (subst (λ (n : ℕ). done ++ pins_below rows holds n ≡ all) (more-before i l) is) own
