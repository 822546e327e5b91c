-- Lists that rise: none of their members is there twice, and each is found by halves.
use Rattle.std.proofs.Common.{◌≡◌, ◌≢◌, ℕ, zero, suc, ◌+◌, ◌<◌, ◌≤◌, Bool, true, false, eqb, ltb, List}
use Rattle.std.proofs.Common.{[], ◌∷◌, length, get_or, Result, Ok, Err, refl, sym, ap, ◌∙◌, inl, inr, arith}
use Rattle.std.specs.List.{IsAllAdjacentAnswer}
use Rattle.std.specs.List.Sorted.{IsStrictlyIncreasing, IsBinarySearchResult}
use Rattle.std.specs.Ordering.{nat_cmp}
use Rattle.std.specs.Result.{MatchResult}
use Rattle.std.specs.Prelude.{is_ok, IsTrue}
use Rattle.std.proofs.lemmas.Bool.{cases_lt, ne_eqb, or_from}
use Rattle.std.proofs.lemmas.List.Sorted.{searched}
use Rattle.export_protocol.specs.Authority.{is_among}
use Rattle.export_protocol.specs.Step.{repeats}
use Rattle.export_protocol.proofs.Lists.{among_at}

-- what comes later is greater

abbrev pub Rises : List ℕ → Type 0
Rises xs = (i j : ℕ) → i < j → j < length xs → get_or xs i 0 < get_or xs j 0

pub later : (xs : List ℕ) → IsStrictlyIncreasing xs → Rises xs
later xs up i zero l n = absurd (omega arith)
later xs up i (suc j) l n =
    let s : j + 1 ≡ suc j = omega arith in
    let step : get_or xs j 0 < get_or xs (suc j) 0 = rw s at (up j (omega arith)) in
    elim (cases_lt i j) [
      | inl m ↦ (let before : get_or xs i 0 < get_or xs j 0 = later xs up i j m (omega arith) in omega arith)
      | inr m ↦ (let e : i ≡ j = omega arith in rw e step)
    ]

not_among : (xs : List ℕ) (d : ℕ) → ((k : ℕ) → k < length xs → get_or xs k 0 ≢ d) → is_among xs d ≡ false
not_among [] d h = refl
not_among (x ∷ xs) d h = or_from (eqb x d) (is_among xs d) (ne_eqb x d (h 0 (omega arith))) (not_among xs d (λ k l. h (suc k) (omega arith)))

distinct : (xs : List ℕ) → Rises xs → repeats xs ≡ false
distinct [] h = refl
distinct (x ∷ xs) h =
    or_from (is_among xs x) (repeats xs) (not_among xs x (λ k l e. let m : x < get_or xs k 0 = h 0 (suc k) (omega arith) (omega arith) in absurd (omega arith)))
    (distinct xs (λ i j l n. h (suc i) (suc j) (omega arith) (omega arith)))

pub rising_distinct : (xs : List ℕ) → IsStrictlyIncreasing xs → repeats xs ≡ false
rising_distinct xs up = distinct xs (later xs up)

in_order : (xs : List ℕ) → Rises xs → (i j : ℕ) → i ≤ j → j < length xs → get_or xs i 0 ≤ get_or xs j 0
in_order xs h i j l n = elim (cases_lt i j) [
  | inl m ↦ (let k : get_or xs i 0 < get_or xs j 0 = h i j m n in omega arith)
  | inr m ↦ (let e : i ≡ j = omega arith in rw e (omega arith))
]

-- a look-up by halves finds the members and no others
pub found : (xs : List ℕ) (d : ℕ) (r : Result ℕ ℕ) → IsStrictlyIncreasing xs → IsBinarySearchResult (λ y. nat_cmp y d) xs r → is_ok r ≡ is_among xs d
found xs d r up h = by_case r (searched xs d r h (in_order xs (later xs up)))
  where
    by_case : (r : Result ℕ ℕ) → MatchResult r (λ i. (i < length xs) × (get_or xs i 0 ≡ d))
        (λ i. (i ≤ length xs) × ((k : ℕ) → k < i → get_or xs k 0 < d) × ((k : ℕ) → i ≤ k → k < length xs → d < get_or xs k 0)) →
        is_ok r ≡ is_among xs d
    by_case (Ok i) m = sym (ap (is_among xs) (sym m.1) ∙ among_at xs i 0 m.0)
    by_case (Err i) m = sym (not_among xs d (λ k l. elim (cases_lt k i) [
      | inl b ↦ (let a : get_or xs k 0 < d = m.1 k b in λ e. absurd (omega arith))
      | inr b ↦ (let a : d < get_or xs k 0 = m.2 k b l in λ e. absurd (omega arith))
    ]))

-- what the walk over the neighbours answers
pub rising_answer : (xs : List ℕ) (r : Bool) → IsAllAdjacentAnswer (λ x y b. b ≡ ltb x y) xs r
    → (IsTrue r → IsStrictlyIncreasing xs) × (IsStrictlyIncreasing xs → IsTrue r)
rising_answer xs true h = (λ t k l. below (get_or xs k 0) (get_or xs (k + 1) 0) (sym (h k 0 l)), λ up. refl)
  where
    below : (a b : ℕ) → ltb a b ≡ true → a < b
    below a b e = grind arith
rising_answer xs false h = (λ t. absurd (cc), λ up. absurd (not_below (get_or xs h.0 0) (get_or xs (h.0 + 1) 0) (sym (h.2 0)) (up h.0 h.1)))
  where
    not_below : (a b : ℕ) → ltb a b ≡ false → a < b → ⊥
    not_below a b e l = grind arith
