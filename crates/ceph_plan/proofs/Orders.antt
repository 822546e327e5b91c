-- Parts that were sorted by their heat.
use Rattle.std.proofs.Common.{All, ◌≡◌, ◌≢◌, ◌∙◌, ◌+◌, ◌-◌, ◌<◌, ◌≤◌, ◌⊎◌, ℕ, zero, suc, Ordering, Equal, true, false, List}
use Rattle.std.proofs.Common.{[], ◌∷◌, ◌++◌, length, map, get_or, slice_index, nat_cmp, inl, inr, ⊎_elim, ap, arith, refl, subst, sym}
use Rattle.std.specs.List.Sorted.{IsPermutation, IsSorted}
use Rattle.std.specs.Ordering.{is_lt, ordering_then}
use Rattle.std.proofs.lemmas.Bool.{and_from, both_ways, cases_eq, cases_lt, eq-eqb, le-ltb, lt-ltb, or_left, or_right}
use Rattle.std.proofs.lemmas.List.{get_or-map, get_or_append_left, get_or_default, get_or_push, length-map, length_push}
use Rattle.std.proofs.lemmas.List.Sorted.{All-permutation, Contains-permutation, length_permutation}
use Rattle.ceph_plan.specs.declared.order.PartHeat.{PartHeat}
use Rattle.ceph_plan.specs.Balance.{IsByHeat, is_hotter}

abbrev pub part_cmp : PartHeat → PartHeat → Ordering
part_cmp x y = ordering_then (nat_cmp x.heat y.heat) (nat_cmp y.part.0 x.part.0)

-- one is colder than another, or as hot and its number is no smaller
abbrev IsUpTo : PartHeat → PartHeat → Type 0
IsUpTo one other = (one.heat < other.heat) ⊎ ((one.heat ≡ other.heat) × (other.part.0 ≤ one.part.0))

up-through : (a b c : PartHeat) → IsUpTo a b → IsUpTo b c → IsUpTo a c
up-through a b c (inl less) (inl more) = inl (omega (arith, less, more))
up-through a b c (inl less) (inr same) = inl (omega (arith, less, same.0))
up-through a b c (inr same) (inl more) = inl (omega (arith, same.0, more))
up-through a b c (inr same) (inr other) = inr (omega (arith, same.0, other.0), omega (arith, same.1, other.1))

self : (x : ℕ) → nat_cmp x x ≡ Equal
self x = rw (le-ltb x x (omega arith), eq-eqb x x refl) refl

hotter_first : (x y : ℕ) (o : Ordering) → x < y → is_lt (ordering_then (nat_cmp x y) o) ≡ true
hotter_first x y o less = rw (lt-ltb x y less) refl

number_next : (x y p q : ℕ) → y ≡ x → p < q → is_lt (ordering_then (nat_cmp x y) (nat_cmp p q)) ≡ true
number_next x y p q same less = rw (same, self x, lt-ltb p q less) refl

up-from : (a b : PartHeat) → is_lt (part_cmp b a) ≡ false → IsUpTo a b
up-from a b not =
    ⊎_elim (λ (less : a.heat < b.heat). inl less)
    (λ (no_less : b.heat ≤ a.heat).
    ⊎_elim (λ (more : b.heat < a.heat). absurd (both_ways (is_lt (part_cmp b a)) not (hotter_first b.heat a.heat (nat_cmp a.part.0 b.part.0) more)))
    (λ (no_more : a.heat ≤ b.heat).
    let same : a.heat ≡ b.heat = omega (arith, no_less, no_more) in
    ⊎_elim (λ (early : a.part.0 < b.part.0). absurd (both_ways (is_lt (part_cmp b a)) not (number_next b.heat a.heat a.part.0 b.part.0 same early)))
    (λ (late : b.part.0 ≤ a.part.0). inr (same, late))
    (cases_lt a.part.0 b.part.0))
    (cases_lt b.heat a.heat))
    (cases_lt a.heat b.heat)

far : (xs : List PartHeat) → IsSorted part_cmp xs → (n k : ℕ) (d : PartHeat) → k + n < length xs → IsUpTo (get_or xs k d) (get_or xs (k + n) d)
far xs up zero k d l =
    let same : k ≡ k + 0 = omega arith in
    subst (λ (m : ℕ). IsUpTo (get_or xs k d) (get_or xs m d)) same (inr (refl, omega arith))
far xs up (suc n) k d l =
    let same : k + n + 1 ≡ k + suc n = omega arith in
    subst (λ (m : ℕ). IsUpTo (get_or xs k d) (get_or xs m d)) same
    (up-through (get_or xs k d) (get_or xs (k + n) d) (get_or xs (k + n + 1) d) (far xs up n k d (omega (arith, l)))
    (up-from (get_or xs (k + n) d) (get_or xs (k + n + 1) d) (up (k + n) d (omega arith) (omega (arith, l)))))

hotter-from : (heats : List ℕ) (a b : PartHeat) (p q : ℕ) → p ≡ a.part.0 → q ≡ b.part.0 → a.heat ≡ slice_index heats a.part.0
    → b.heat ≡ slice_index heats b.part.0
    → p ≢ q → IsUpTo a b → is_hotter heats q p ≡ true
hotter-from heats a b p q p_is q_is a_heat b_heat apart (inl less) =
    let here : slice_index heats p ≡ a.heat = ap (slice_index heats) p_is ∙ sym a_heat in
    let there : slice_index heats q ≡ b.heat = ap (slice_index heats) q_is ∙ sym b_heat in
    or_left _ _ (lt-ltb (slice_index heats p) (slice_index heats q) (omega (arith, here, there, less)))
hotter-from heats a b p q p_is q_is a_heat b_heat apart (inr same) =
    let here : slice_index heats p ≡ a.heat = ap (slice_index heats) p_is ∙ sym a_heat in
    let there : slice_index heats q ≡ b.heat = ap (slice_index heats) q_is ∙ sym b_heat in
    or_right _ _ (and_from _ _ (eq-eqb (slice_index heats p) (slice_index heats q) (omega (arith, here, there, same.0)))
    (lt-ltb q p (omega (arith, p_is, q_is, same.1, apart))))

-- the first n parts and their heats
pub record AreHeats (heats : List ℕ) (found : List PartHeat) (n : ℕ) : Type 0 where
  pub size : length found ≡ n
  pub parts : (p : ℕ) (past : PartHeat) → p < n → (get_or found p past).part.0 ≡ p
  pub heats_are : (p : ℕ) (past : PartHeat) → p < n → (get_or found p past).heat ≡ slice_index heats p

pub more-heats : (heats : List ℕ) (found more : List PartHeat) (x : PartHeat) (n : ℕ) → AreHeats heats found n → more ≡ found ++ x ∷ []
    → x.part.0 ≡ n → x.heat ≡ slice_index heats n → AreHeats heats more (n + 1)
more-heats heats found more x n are is part heat = subst (λ (xs : List PartHeat). AreHeats heats xs (n + 1)) (sym is) (record {
  size = length_push found x ∙ ap (λ (k : ℕ). k + 1) are.size;
  parts = λ p past l.
      ⊎_elim (λ (same : p ≡ n). subst (λ (k : ℕ). (get_or (found ++ x ∷ []) k past).part.0 ≡ k) (sym same)
      (ap (λ (one : PartHeat). one.part.0) (get_or_push found x past n are.size) ∙ part))
      (λ (other : p ≢ n).
      let low : p < n = omega (arith, l, other) in
      ap (λ (one : PartHeat). one.part.0) (get_or_append_left found (x ∷ []) past p (omega (arith, low, are.size))) ∙ are.parts p past low)
      (cases_eq p n);
  heats_are = λ p past l.
      ⊎_elim (λ (same : p ≡ n). subst (λ (k : ℕ). (get_or (found ++ x ∷ []) k past).heat ≡ slice_index heats k) (sym same)
      (ap (λ (one : PartHeat). one.heat) (get_or_push found x past n are.size) ∙ heat))
      (λ (other : p ≢ n).
      let low : p < n = omega (arith, l, other) in
      ap (λ (one : PartHeat). one.heat) (get_or_append_left found (x ∷ []) past p (omega (arith, low, are.size))) ∙ are.heats_are p past low)
      (cases_eq p n);
})

pub ordered : (heats order : List ℕ) (found sorted : List PartHeat) → length found ≡ length heats
    → ((p : ℕ) (past : PartHeat) → p < length heats → (get_or found p past).part.0 ≡ p)
    → ((p : ℕ) (past : PartHeat) → p < length heats → (get_or found p past).heat ≡ slice_index heats p)
    → IsPermutation found sorted → IsSorted part_cmp sorted → order ≡ map (λ (one : PartHeat). one.part.0) sorted → IsByHeat heats order
ordered heats order found sorted size parts hot moved up is =
    let n : ℕ = length heats in
    let d : PartHeat = record { heat = 0; part = record { 0 = 0 } } in
    let long : length sorted ≡ n = length_permutation found sorted moved ∙ size in
    let at : (i : ℕ) → i < n → get_or order i 0 ≡ (get_or sorted i d).part.0 = λ i l.
    ap (λ (xs : List ℕ). get_or xs i 0) is ∙ get_or-map (λ (one : PartHeat). one.part.0) sorted i d 0 (omega (arith, l, long)) in
    let all : All (λ (one : PartHeat). (one.part.0 < n) × (one.heat ≡ slice_index heats one.part.0)) sorted =
    All-permutation (λ (one : PartHeat). (one.part.0 < n) × (one.heat ≡ slice_index heats one.part.0)) found sorted moved
    (λ p past l.
    let inside : p < n = omega (arith, l, size) in
    (omega (arith, inside, parts p past inside), hot p past inside ∙ ap (slice_index heats) (sym (parts p past inside)))) in
    record {
      size = ap length is ∙ (length-map sorted (λ (one : PartHeat). one.part.0) ∙ long);
      inside = λ i l. omega (arith, at i l, (all i d (omega (arith, l, long))).0);
      hotter = λ i j less l apart.
          let early : i < n = omega (arith, less, l) in
          let same : i + (j - i) ≡ j = omega (arith, less) in
          hotter-from heats (get_or sorted i d) (get_or sorted j d) (get_or order i 0) (get_or order j 0) (at i early) (at j l)
          (all i d (omega (arith, early, long))).1 (all j d (omega (arith, l, long))).1 apart
          (subst (λ (m : ℕ). IsUpTo (get_or sorted i d) (get_or sorted m d)) same (far sorted up (j - i) i d (omega (arith, less, l, long))));
      each = λ p l none.
          let x : PartHeat = get_or found p d in
          let there = Contains-permutation found sorted x moved (p, omega (arith, l, size), get_or_default found p x d (omega (arith, l, size))) in
          let inside : there.0 < n = omega (arith, there.1, long) in
          none there.0 inside
          (at there.0 inside
          ∙ (ap (λ (one : PartHeat). one.part.0) (get_or_default sorted there.0 d x there.1) ∙ (ap (λ (one : PartHeat). one.part.0) there.2 ∙ parts p d l)));
    }
