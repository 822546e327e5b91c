-- The list of changes, step by step.
use Rattle.std.proofs.Common.{◌≡◌, ◌≢◌, ℕ, zero, suc, ◌+◌, ◌<◌, ◌≤◌, List, [], ◌∷◌, ◌++◌, length, take, true, false}
use Rattle.std.proofs.Common.{cond, nat_lt, Option, Some, None, refl, ap, sym, ◌∙◌, arith, ⊎_elim, ◌⊎◌, inl, inr, subst}
use Rattle.std.proofs.lemmas.Bool.{cases_Bool, cases_eq, cases_lt, eq-eqb, ne_eqb, lt-ltb, le-ltb}
use Rattle.ceph_plan.specs.declared.row.PinRow.{PinRow}
use Rattle.ceph_plan.specs.declared.row.PinChange.{PinChange}
use Rattle.ceph_plan.specs.declared.hold.Hold.{Hold}
use Rattle.ceph_plan.specs.Rule.{AreRows, IsAt, IsNearest, climb, first_of, row_at, target_at}
use Rattle.ceph_plan.specs.Holds.{hold_at}
use Rattle.ceph_plan.specs.Changes.{applied, changed, drops_from, is_dropped, is_set, sets_below, while_set, while_unset}
use Rattle.ceph_plan.proofs.Moves.{set_at, unset_at}

-- the same pins at each row
pub record AreSame (own other : ℕ → Option ℕ) : Type 0 where
  pub same : (j : ℕ) → own j ≡ other j

pub same_near : (rows : List PinRow) (own other : ℕ → Option ℕ) (i r : ℕ) → AreSame own other → IsNearest rows own i r → IsNearest rows other i r
same_near rows own other i r s near = record {
  steps = near.steps;
  pin = sym (s.same (climb rows near.steps i)) ∙ near.pin;
  nearer = λ n l. sym (s.same (climb rows n i)) ∙ near.nearer n l;
}

pub same_at : (rows : List PinRow) (own other : ℕ → Option ℕ) (i r : ℕ) → AreSame own other → IsAt rows own i r → IsAt rows other i r
same_at rows own other i r s (inl near) = inl (same_near rows own other i r s near)
same_at rows own other i r s (inr free) = inr (record { none = λ n. sym (s.same (climb rows n i)) ∙ free.0.none n }, free.1)

-- what the rows' holds say of the pins before and after
pub record AreStates (rows : List PinRow) (holds : List Hold) (old new : ℕ → Option ℕ) : Type 0 where
  pub set : (i : ℕ) → is_set (row_at rows i) (hold_at holds i) ≡ true → new i ≡ Some (target_at rows i)
  pub not_set : (i : ℕ) → is_set (row_at rows i) (hold_at holds i) ≡ false → first_of (new i) (old i) ≡ old i
  pub dropped : (i : ℕ) → is_dropped (row_at rows i) (hold_at holds i) ≡ true → new i ≡ None
  pub not_dropped : (i : ℕ) → is_dropped (row_at rows i) (hold_at holds i) ≡ false → first_of (new i) (old i) ≡ new i

at_same : (own : ℕ → Option ℕ) (c : PinChange) (j : ℕ) → c.row ≡ j → changed own c j ≡ c.pin
at_same own c j e = rw (eq-eqb c.row j e) refl

at_other : (own : ℕ → Option ℕ) (c : PinChange) (j : ℕ) → c.row ≢ j → changed own c j ≡ own j
at_other own c j e = rw (ne_eqb c.row j e) refl

-- where one test or the other says the same
same_side : (a b : Option ℕ) (j n : ℕ) → n ≢ j → cond (nat_lt j (suc n)) a b ≡ cond (nat_lt j n) a b
same_side a b j n other =
    ⊎_elim (λ (low : j < n). rw (lt-ltb j n low, lt-ltb j (suc n) (omega arith)) refl)
    (λ (high : n ≤ j). rw (le-ltb j n high, le-ltb j (suc n) (omega (arith, high, other))) refl)
    (cases_lt j n)

here_above : (a b : Option ℕ) (j n : ℕ) → n ≡ j → cond (nat_lt j n) a b ≡ b
here_above a b j n e = rw (le-ltb j n (omega (arith, e))) refl

here_below : (a b : Option ℕ) (j n : ℕ) → n ≡ j → cond (nat_lt j (suc n)) a b ≡ a
here_below a b j n e = rw (lt-ltb j (suc n) (omega (arith, e))) refl

-- one row further, where the other rows stay as they are
step_to : (own before after : ℕ → Option ℕ) (n : ℕ) (c : PinChange) → c.row ≡ n → c.pin ≡ after n → ((j : ℕ) → n ≢ j → before j ≡ after j)
    → AreSame own before → AreSame (changed own c) after
step_to own before after n c at pin others s = record {
  same = λ j.
      ⊎_elim (λ (here : n ≡ j). at_same own c j (at ∙ here) ∙ (pin ∙ ap after here))
      (λ (other : n ≢ j). at_other own c j (λ e. other (sym at ∙ e)) ∙ (s.same j ∙ others j other))
      (cases_eq n j);
}

pass_to : (own before after : ℕ → Option ℕ) (n : ℕ) → before n ≡ after n → ((j : ℕ) → n ≢ j → before j ≡ after j) → AreSame own before → AreSame own after
pass_to own before after n is others s = record {
  same = λ j.
      ⊎_elim (λ (here : n ≡ j). s.same j ∙ subst (λ (k : ℕ). before k ≡ after k) here is)
      (λ (other : n ≢ j). s.same j ∙ others j other)
      (cases_eq n j);
}

set_step : (old new own : ℕ → Option ℕ) (n : ℕ) (c : PinChange) → c.row ≡ n → c.pin ≡ first_of (new n) (old n)
    → AreSame own (while_set old new (suc n)) → AreSame (changed own c) (while_set old new n)
set_step old new own n c at pin s =
    step_to own (while_set old new (suc n)) (while_set old new n) n c at (pin ∙ sym (here_above (old n) (first_of (new n) (old n)) n n refl))
    (λ j other. same_side (old j) (first_of (new j) (old j)) j n other) s

set_pass : (old new own : ℕ → Option ℕ) (n : ℕ) → first_of (new n) (old n) ≡ old n → AreSame own (while_set old new (suc n)) → AreSame own (while_set old new n)
set_pass old new own n is s =
    pass_to own (while_set old new (suc n)) (while_set old new n) n
    (here_below (old n) (first_of (new n) (old n)) n n refl ∙ (sym is ∙ sym (here_above (old n) (first_of (new n) (old n)) n n refl)))
    (λ j other. same_side (old j) (first_of (new j) (old j)) j n other) s

drop_step : (old new own : ℕ → Option ℕ) (n : ℕ) (c : PinChange) → c.row ≡ n → c.pin ≡ new n → AreSame own (while_unset old new n)
    → AreSame (changed own c) (while_unset old new (suc n))
drop_step old new own n c at pin s =
    step_to own (while_unset old new n) (while_unset old new (suc n)) n c at (pin ∙ sym (here_below (new n) (first_of (new n) (old n)) n n refl))
    (λ j other. sym (same_side (new j) (first_of (new j) (old j)) j n other)) s

drop_pass : (old new own : ℕ → Option ℕ) (n : ℕ) → first_of (new n) (old n) ≡ new n → AreSame own (while_unset old new n)
    → AreSame own (while_unset old new (suc n))
drop_pass old new own n is s =
    pass_to own (while_unset old new n) (while_unset old new (suc n)) n
    (here_above (new n) (first_of (new n) (old n)) n n refl ∙ (is ∙ sym (here_below (new n) (first_of (new n) (old n)) n n refl)))
    (λ j other. sym (same_side (new j) (first_of (new j) (old j)) j n other)) s

-- the pins at some moment, while new ones are set or old ones are taken away
abbrev IsMoment : (ℕ → Option ℕ) → (ℕ → Option ℕ) → (ℕ → Option ℕ) → Type 0
IsMoment old new own = (at : ℕ) × (AreSame own (while_set old new at) ⊎ AreSame own (while_unset old new at))

-- the changes lead to these pins in the end, by way of such moments
record IsWay (old new own : ℕ → Option ℕ) (changes : List PinChange) (last : ℕ → Option ℕ) : Type 0 where
  moments : (k : ℕ) → IsMoment old new (applied own (take k changes))
  ends : AreSame (applied own changes) last

way_none : (old new own last : ℕ → Option ℕ) → IsMoment old new own → AreSame own last → IsWay old new own [] last
way_none old new own last now s = record { moments = stay; ends = s }
  where
    stay : (k : ℕ) → IsMoment old new (applied own (take k []))
    stay zero = now
    stay (suc k) = now

way_more : (old new own last : ℕ → Option ℕ) (c : PinChange) (changes : List PinChange) → IsMoment old new own
    → IsWay old new (changed own c) changes last → IsWay old new own (c ∷ changes) last
way_more old new own last c changes now way = record { moments = stay; ends = way.ends }
  where
    stay : (k : ℕ) → IsMoment old new (applied own (take k (c ∷ changes)))
    stay zero = now
    stay (suc k) = way.moments k

way_on : (old new own mid last : ℕ → Option ℕ) (xs ys : List PinChange) → IsWay old new own xs mid
    → ((after : ℕ → Option ℕ) → AreSame after mid → IsWay old new after ys last)
    → IsWay old new own (xs ++ ys) last
way_on old new own mid last [] ys way rest = rest own way.ends
way_on old new own mid last (x ∷ xs) ys way rest =
    way_more old new own last x (xs ++ ys) (way.moments 0)
    (way_on old new (changed own x) mid last xs ys (record { moments = λ k. way.moments (suc k); ends = way.ends }) rest)

-- the pins are set from some row on, in the end from row 0 on
sets_way : (rows : List PinRow) (holds : List Hold) (old new own : ℕ → Option ℕ) (n : ℕ) → AreStates rows holds old new → AreSame own (while_set old new n)
    → IsWay old new own (sets_below rows holds n) (while_set old new 0)
sets_way rows holds old new own zero states s = way_none old new own (while_set old new 0) (0, inl s) s
sets_way rows holds old new own (suc n) states s =
    ⊎_elim (λ (is : is_set (row_at rows n) (hold_at holds n) ≡ true).
    let c : PinChange = record { row = n; pin = Some (target_at rows n) } in
    let next : AreSame (changed own c) (while_set old new n) =
    set_step old new own n c refl (sym (ap (λ (o : Option ℕ). first_of o (old n)) (states.set n is))) s in
    rw is (way_more old new own (while_set old new 0) c (sets_below rows holds n) (suc n, inl s) (sets_way rows holds old new (changed own c) n states next)))
    (λ (is : is_set (row_at rows n) (hold_at holds n) ≡ false).
    rw is (sets_way rows holds old new own n states (set_pass old new own n (states.not_set n is) s)))
    (cases_Bool (is_set (row_at rows n) (hold_at holds n)))

-- they are taken away up to some row, in the end at all
drops_way : (rows : List PinRow) (holds : List Hold) (old new own : ℕ → Option ℕ) (n m : ℕ) → AreStates rows holds old new → AreSame own (while_unset old new m)
    → IsWay old new own (drops_from rows holds n m) (while_unset old new (m + n))
drops_way rows holds old new own zero m states s =
    way_none old new own (while_unset old new (m + 0)) (m, inr s)
    (subst (λ (k : ℕ). AreSame own (while_unset old new k)) (let same : m ≡ m + 0 = omega arith in same) s)
drops_way rows holds old new own (suc n) m states s =
    let far : suc m + n ≡ m + suc n = omega arith in
    subst (λ (k : ℕ). IsWay old new own (drops_from rows holds (suc n) m) (while_unset old new k)) far
    (⊎_elim (λ (is : is_dropped (row_at rows m) (hold_at holds m) ≡ true).
    let c : PinChange = record { row = m; pin = None } in
    let next : AreSame (changed own c) (while_unset old new (suc m)) = drop_step old new own m c refl (sym (states.dropped m is)) s in
    rw is (way_more old new own (while_unset old new (suc m + n)) c (drops_from rows holds n (suc m)) (m, inr s)
    (drops_way rows holds old new (changed own c) n (suc m) states next)))
    (λ (is : is_dropped (row_at rows m) (hold_at holds m) ≡ false).
    rw is (drops_way rows holds old new own n (suc m) states (drop_pass old new own m (states.not_dropped m is) s)))
    (cases_Bool (is_dropped (row_at rows m) (hold_at holds m))))

zero_side : (a b c : Option ℕ) (j : ℕ) → cond (nat_lt j 0) a c ≡ cond (nat_lt j 0) b c
zero_side a b c j = rw (le-ltb j 0 (omega arith)) refl

-- the theorem on the whole list
whole : (rows : List PinRow) (holds : List Hold) (old new : ℕ → Option ℕ) → AreStates rows holds old new → AreSame old (while_set old new (length rows))
    → IsWay old new old (sets_below rows holds (length rows) ++ drops_from rows holds (length rows) 0) (while_unset old new (0 + length rows))
whole rows holds old new states start =
    way_on old new old (while_set old new 0) (while_unset old new (0 + length rows)) (sets_below rows holds (length rows))
    (drops_from rows holds (length rows) 0)
    (sets_way rows holds old new old (length rows) states start)
    (λ after s. drops_way rows holds old new after (length rows) 0 states
    (record { same = λ j. s.same j ∙ zero_side (old j) (new j) (first_of (new j) (old j)) j }))

pub once : (rows : List PinRow) (holds : List Hold) (old new : ℕ → Option ℕ) (k i r : ℕ) → AreRows rows → AreStates rows holds old new
    → AreSame old (while_set old new (length rows)) → i < length rows
    → IsAt rows (applied old (take k (sets_below rows holds (length rows) ++ drops_from rows holds (length rows) 0))) i r
    → IsAt rows old i r ⊎ IsAt rows new i r
once rows holds old new k i r are states start l near =
    let moment : IsMoment old new (applied old (take k (sets_below rows holds (length rows) ++ drops_from rows holds (length rows) 0))) =
    (whole rows holds old new states start).moments k in
    elim moment.1 [
      | inl set ↦ set_at rows old new moment.0 i r are l (same_at rows _ (while_set old new moment.0) i r set near)
      | inr unset ↦ unset_at rows old new moment.0 i r are l (same_at rows _ (while_unset old new moment.0) i r unset near)
    ]

pub ends : (rows : List PinRow) (holds : List Hold) (old new : ℕ → Option ℕ) → AreStates rows holds old new
    → AreSame old (while_set old new (length rows)) → AreSame
    (applied old (sets_below rows holds (length rows) ++ drops_from rows holds (length rows) 0)) (while_unset old new (0 + length rows))
ends rows holds old new states start = (whole rows holds old new states start).ends
