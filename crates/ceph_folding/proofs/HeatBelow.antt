-- The heat at and below directories, and that the coldest go.
use Rattle.ceph_snapshot.proofs.Adding.{before-inside}
use Rattle.std.proofs.lemmas.Option.{slice_get-get_or}
use Rattle.std.specs.Option.{option_map_or}
use Rattle.std.proofs.Math.Nat.{le_refl, le_trans, lt_trans}
use Rattle.std.proofs.Common.{◌≡◌, ◌≢◌, ◌∙◌, ◌+◌, ◌<◌, ◌≤◌, ◌&&◌, ◌⊎◌, ℕ, zero, suc, Bool, true, false, not, List, length, cond}
use Rattle.std.proofs.Common.{eqb, nat_le, set, slice_index, inl, inr, ⊎_elim, ap, arith, min, refl, subst, sym, ◌-◌, slice_get, get_or, Option, Some}
use Rattle.std.proofs.lemmas.Bool.{and_from, and_parts, both_ways, cases_Bool, cases_eq, cases_lt, eq-eqb, le-leb, leb-true, ne_eqb, not_from_false}
use Rattle.std.proofs.lemmas.Grind.{common_steps}
use Rattle.std.proofs.lemmas.List.{get_or-set_other, get_or-set_same}
use Rattle.mds_types.specs.Sums.{sum_below}
use Rattle.mds_types.proofs.SumsLemmas.{sum_below-add, sum_below-pick, sum_below-same, sum_below-zero}
use Rattle.ceph_folding.specs.declared.coldest.Key.{Key}
use Rattle.ceph_snapshot.specs.declared.directory.Directory.{Directory}
use Rattle.ceph_folding.specs.Folding.{AreColdest, HasToStay, IsCappedSum, IsHeatBelow, of_children}
use Rattle.ceph_snapshot.specs.Holding.{climb, heat_at, most_heat, parent_at, is_marked, AreParentsFirst}
use Rattle.ceph_folding.specs.Keys.{goes, is_at_most, key_at}

-- nothing was counted yet
pub none-below : (ds : List Directory) (heat : ℕ → ℕ) (first i : ℕ) → length ds ≤ first → of_children ds heat first i ≡ 0
none-below ds heat first i past =
    sum_below-zero (length ds) (λ c. cond (nat_le first c && eqb (parent_at ds c) i) (heat c) 0)
    (λ c l. none (nat_le first c) (eqb (parent_at ds c) i) (heat c) (early c l))
  where
    none : (a b : Bool) (x : ℕ) → a ≡ false → cond (a && b) x 0 ≡ 0
    none a b x is = rw is refl

    early : (c : ℕ) → c < length ds → nat_le first c ≡ false
    early c l = grind (arith, common_steps, past, l)

-- one more child is counted
one-child : (ds : List Directory) (heat other : ℕ → ℕ) (at i : ℕ) → at < length ds → ((c : ℕ) → at ≤ c → other c ≡ heat c)
    → of_children ds other at i ≡ of_children ds heat (at + 1) i + cond (eqb (parent_at ds at) i) (heat at) 0
one-child ds heat other at i inside same =
    let n : ℕ = length ds in
    let new : ℕ → ℕ = λ c. cond (nat_le at c && eqb (parent_at ds c) i) (other c) 0 in
    let old : ℕ → ℕ = λ c. cond (nat_le (at + 1) c && eqb (parent_at ds c) i) (heat c) 0 in
    let one : ℕ → ℕ = λ c. cond (eqb at c) (cond (eqb (parent_at ds c) i) (heat c) 0) 0 in
    sum_below-same n new (λ c. old c + one c) (λ c l. each c)
    ∙ (sum_below-add n old one ∙ ap (λ (x : ℕ). sum_below n old + x) (sum_below-pick n at (λ c. cond (eqb (parent_at ds c) i) (heat c) 0) inside))
  where
    masked : (a b e p : Bool) (x y : ℕ) → (a ≡ true → x ≡ y) → ((a ≡ true) × (b ≡ false) × (e ≡ true)) ⊎ ((a ≡ b) × (e ≡ false))
        → cond (a && p) x 0 ≡ cond (b && p) y 0 + cond e (cond p y 0) 0
    masked true false true true x y is (inl w) = omega (arith, is refl)
    masked true false true false x y is (inl w) = refl
    masked true true e p x y is (inl w) = absurd (both_ways true w.1 refl)
    masked false b e p x y is (inl w) = absurd (both_ways false refl w.0)
    masked a b false p x y is (inl w) = absurd (both_ways false refl w.2)
    masked true b e true x y is (inr w) = rw (sym w.0, w.1) (omega (arith, is refl))
    masked true b e false x y is (inr w) = rw (sym w.0, w.1) refl
    masked false b e p x y is (inr w) = rw (sym w.0, w.1) refl

    each : (c : ℕ) → cond (nat_le at c && eqb (parent_at ds c) i) (other c) 0
        ≡ cond (nat_le (at + 1) c && eqb (parent_at ds c) i) (heat c) 0 + cond (eqb at c) (cond (eqb (parent_at ds c) i) (heat c) 0) 0
    each c =
        masked (nat_le at c) (nat_le (at + 1) c) (eqb at c) (eqb (parent_at ds c) i) (other c) (heat c) (λ is. same c (leb-true at c is))
        (⊎_elim (λ (here : at ≡ c). inl (le-leb at c (omega (arith, here)), grind (arith, common_steps, here), eq-eqb at c here))
        (λ (away : at ≢ c). inr (grind (arith, common_steps, away), ne_eqb at c away))
        (cases_eq at c))

capped-more : (capped more whole child : ℕ) → IsCappedSum capped whole → more ≡ min most_heat (capped + child) → IsCappedSum more (whole + child)
capped-more capped more whole child is sum = elim is [
  | inl exact ↦ ⊎_elim (λ (over : most_heat < capped + child). inr (omega (arith, over, sum), omega (arith, over, exact)))
      (λ (fits : capped + child ≤ most_heat). inl (omega (arith, fits, sum, exact)))
      (cases_lt most_heat (capped + child))
  | inr full ↦ inr (omega (arith, full.0, sum), omega (arith, full.1))
]

-- the parent has what its child has too
pub below-more : (ds : List Directory) (heats : List ℕ) (at above more : ℕ) → length heats ≡ length ds → at < length ds → above ≡ parent_at ds at → above < at
    → more ≡ min most_heat (slice_index heats above + slice_index heats at)
    → ((i : ℕ) → i < length ds → IsCappedSum (slice_index heats i) (heat_at ds i + of_children ds (slice_index heats) (at + 1) i))
    → (i : ℕ) → i < length ds → IsCappedSum (slice_index (set heats above more) i) (heat_at ds i + of_children ds (slice_index (set heats above more)) at i)
below-more ds heats at above more size inside parent up sum before i l =
    let new : ℕ → ℕ = slice_index (set heats above more) in
    let children : of_children ds new at i ≡ of_children ds (slice_index heats) (at + 1) i + cond (eqb (parent_at ds at) i) (slice_index heats at) 0 =
    one-child ds (slice_index heats) new at i inside
    (λ c low. get_or-set_other heats above c more 0 (λ same. let none : ⊥ = omega (arith, same, low, up) in none)) in
    let old : ℕ = of_children ds (slice_index heats) (at + 1) i in
    ⊎_elim (λ (same : i ≡ above).
    let there : new i ≡ more = ap new same ∙ get_or-set_same heats above more 0 (omega (arith, size, inside, up)) in
    let whole : heat_at ds i + of_children ds new at i ≡ heat_at ds i + old + slice_index heats at =
    omega (arith, children, ap (λ (b : Bool). cond b (slice_index heats at) 0) (eq-eqb (parent_at ds at) i (sym parent ∙ sym same))) in
    let had : IsCappedSum (slice_index heats above) (heat_at ds i + old) =
    subst (λ (k : ℕ). IsCappedSum (slice_index heats k) (heat_at ds i + old)) same (before i l) in
    subst (λ (x : ℕ). IsCappedSum (new i) x) (sym whole)
    (subst (λ (x : ℕ). IsCappedSum x (heat_at ds i + old + slice_index heats at)) (sym there)
    (capped-more (slice_index heats above) more (heat_at ds i + old) (slice_index heats at) had sum)))
    (λ (other : i ≢ above).
    let stays : new i ≡ slice_index heats i = get_or-set_other heats above i more 0 other in
    let whole : heat_at ds i + of_children ds new at i ≡ heat_at ds i + old =
    omega (arith, children, ap (λ (b : Bool). cond b (slice_index heats at) 0) (ne_eqb (parent_at ds at) i (λ same. other (sym same ∙ sym parent)))) in
    subst (λ (x : ℕ). IsCappedSum (new i) x) (sym whole) (subst (λ (x : ℕ). IsCappedSum x (heat_at ds i + old)) (sym stays) (before i l)))
    (cases_eq i above)

-- one step more from below
climb-more : (ds : List Directory) (steps i : ℕ) → climb ds (suc steps) i ≡ parent_at ds (climb ds steps i)
climb-more ds zero i = refl
climb-more ds (suc steps) i = climb-more ds steps (parent_at ds i)

pub stays-above : (ds : List Directory) (i : ℕ) → HasToStay ds i → HasToStay ds (parent_at ds i)
stays-above ds i stay = record {
  below = stay.below;
  inside = stay.inside;
  steps = suc stay.steps;
  there = climb-more ds stay.steps stay.below ∙ ap (parent_at ds) stay.there;
  stays = stay.stays;
}

-- what was marked before stays, and so does what is marked now
pub marked-needed : (ds : List Directory) (stays : List Bool) (at above : ℕ) → at < length stays → above < length (set stays at true) → above ≡ parent_at ds at
    → HasToStay ds at → ((i : ℕ) → is_marked stays i ≡ true → HasToStay ds i) → (i : ℕ)
    → is_marked (set (set stays at true) above true) i ≡ true → HasToStay ds i
marked-needed ds stays at above first second parent here before i is =
    ⊎_elim (λ (up : i ≡ above). subst (HasToStay ds) (sym parent ∙ sym up) (stays-above ds at here))
    (λ (other : i ≢ above).
    ⊎_elim (λ (same : i ≡ at). subst (HasToStay ds) (sym same) here)
    (λ (away : i ≢ at). before i (sym (get_or-set_other stays at i true false away)
    ∙ (sym (get_or-set_other (set stays at true) above i true false other) ∙ is)))
    (cases_eq i at))
    (cases_eq i above)

-- a key that is at most the last has no more heat, and one that isn't has no less
no-hotter : (heats : List ℕ) (last : Key) (i : ℕ) → is_at_most (key_at heats i) last ≡ true → slice_index heats i ≤ last.heat
no-hotter heats last i is = grind (arith, common_steps)

no-colder : (heats : List ℕ) (last : Key) (i : ℕ) → is_at_most (key_at heats i) last ≡ false → last.heat ≤ slice_index heats i
no-colder heats last i is = grind (arith, common_steps)

pub coldest-gone : (ds : List Directory) (heats : List ℕ) (stays marks : List Bool) (last : Key) → length heats ≡ length ds → IsHeatBelow ds (slice_index heats)
    → ((i : ℕ) → is_marked stays i ≡ true → HasToStay ds i)
    → ((i : ℕ) → i < length heats → is_marked marks i ≡ goes heats stays last i)
    → AreColdest ds (is_marked marks)
coldest-gone ds heats stays marks last size is needed marked = record {
  heat = slice_index heats;
  is = is;
  first = λ i j li lj gone kept free.
      let here = and_parts (not (is_marked stays i)) (is_at_most (key_at heats i) last) (sym (marked i (subst (λ (n : ℕ). i < n) (sym size) li)) ∙ gone) in
      let cold : slice_index heats i ≤ last.heat = no-hotter heats last i here.1 in
      let plain : is_marked stays j ≡ false =
      ⊎_elim (λ (stay : is_marked stays j ≡ true). absurd (free (needed j stay))) (λ (may : is_marked stays j ≡ false). may) (cases_Bool (is_marked stays j)) in
      let past : is_at_most (key_at heats j) last ≡ false =
      ⊎_elim (λ (at_most : is_at_most (key_at heats j) last ≡ true).
      absurd (both_ways (is_marked marks j)
      kept (marked j (subst (λ (n : ℕ). j < n) (sym size) lj)
      ∙ and_from (not (is_marked stays j)) (is_at_most (key_at heats j) last) (not_from_false (is_marked stays j) plain) at_most)))
      (λ (no : is_at_most (key_at heats j) last ≡ false). no)
      (cases_Bool (is_at_most (key_at heats j) last)) in
      let hot : last.heat ≤ slice_index heats j = no-colder heats last j past in
      omega (arith, cold, hot);
}

raised : (heats : List ℕ) (above sum k : ℕ) → above < length heats → slice_index heats above ≤ sum → slice_index heats k ≤ slice_index (set heats above sum) k
raised heats above sum k inside le =
    ⊎_elim (λ (same : k ≡ above).
    let set_is : slice_index (set heats above sum) above ≡ sum = get_or-set_same heats above sum 0 inside in
    subst (λ (j : ℕ). slice_index heats j ≤ slice_index (set heats above sum) j) (sym same) (subst (λ (s : ℕ). slice_index heats above ≤ s) (sym set_is) le))
    (λ (other : k ≢ above). subst (λ (s : ℕ). slice_index heats k ≤ s) (sym (get_or-set_other heats above k sum 0 other)) (le_refl (slice_index heats k)))
    (cases_eq k above)

-- a parent has what its child has, and what it had
pub rise-more : (ds : List Directory) (heats : List ℕ) (at above sum : ℕ) → above < length heats → above ≡ parent_at ds at → above < at
    → slice_index heats above ≤ sum → slice_index heats at ≤ sum
    → ((i : ℕ) → 0 < i → at + 1 ≤ i → i < length ds → slice_index heats i ≤ slice_index heats (parent_at ds i))
    → (i : ℕ) → 0 < i → at ≤ i → i < length ds → slice_index (set heats above sum) i ≤ slice_index (set heats above sum) (parent_at ds i)
rise-more ds heats at above sum inside is up had child before i some low l =
    let apart : i ≢ above = λ same. let none : ⊥ = omega (arith, same, up, low) in none in
    let stays : slice_index (set heats above sum) i ≡ slice_index heats i = get_or-set_other heats above i sum 0 apart in
    let rose : slice_index heats i ≤ slice_index (set heats above sum) (parent_at ds i) =
    ⊎_elim (λ (same : i ≡ at).
    let parent : slice_index (set heats above sum) (parent_at ds i)
    ≡ sum = ap (slice_index (set heats above sum)) (ap (parent_at ds) same ∙ sym is) ∙ get_or-set_same heats above sum 0 inside in
    subst (λ (s : ℕ). slice_index heats i ≤ s) (sym parent) (subst (λ (k : ℕ). slice_index heats k ≤ sum) (sym same) child))
    (λ (other : i ≢ at).
    let later : at + 1 ≤ i = omega (arith, low, other) in
    le_trans (before i some later l) (raised heats above sum (parent_at ds i) inside had))
    (cases_eq i at) in
    subst (λ (s : ℕ). s ≤ slice_index (set heats above sum) (parent_at ds i)) (sym stays) rose

-- the parent of the directory there, as it is read
pub parent-inside : (ds : List Directory) (i : ℕ) (d : Directory) → AreParentsFirst ds → 1 < i → i ≤ length ds → (get_or ds (i - 1) d).parent < length ds
parent-inside ds i d first later inside =
    let at = before-inside i (length ds) later inside in
    let read : slice_get ds (i - 1) ≡ Some (get_or ds (i - 1) d) = slice_get-get_or ds (i - 1) d at.1 in
    subst (λ (o : Option Directory). option_map_or (λ (one : Directory). one.parent) o 0 < length ds) read (lt_trans (first.above (i - 1) at.0 at.1) at.1)
