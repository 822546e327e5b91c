-- The place of a number among the numbers that pass a test.
use Rattle.std.proofs.Common.{◌≡◌, ℕ, zero, suc, ◌<◌, ◌≤◌, ◌+◌, [], ◌∷◌, ◌++◌, length, sym, ap}
use Rattle.std.proofs.Common.{◌∙◌, refl, arith, Bool, true, false, cond, ltb, get_or, append-nil, length-append, inl, inr}
use Rattle.std.specs.Prelude.{filter}
use Rattle.std.proofs.lemmas.Bool.{cases_Bool, cases_eq, cases_lt, le-ltb, lt-ltb}
use Rattle.std.proofs.lemmas.List.{get_or_append_left}
use Rattle.std.proofs.lemmas.List.Elements.{filter-append}
use Rattle.std.proofs.Math.Seq.{get_or-append_seam}
use Rattle.dir_pins.specs.Pins.{below}

-- the numbers so far and one more
pub kept_next : (test : ℕ → Bool) (n : ℕ) → filter test (below (suc n)) ≡ filter test (below n) ++ cond (test n) (n ∷ []) []
kept_next test n = filter-append test (below n) (n ∷ [])

one_low : (test : ℕ → Bool) (n m : ℕ) → n < m → filter (λ x. ltb x m) (cond (test n) (n ∷ []) []) ≡ cond (test n) (n ∷ []) []
one_low test n m h = elim (cases_Bool (test n)) [
  | inl passes ↦ rw passes (rw (lt-ltb n m h) refl)
  | inr fails ↦ rw fails refl
]

one_high : (test : ℕ → Bool) (n m : ℕ) → m ≤ n → filter (λ x. ltb x m) (cond (test n) (n ∷ []) []) ≡ []
one_high test n m h = elim (cases_Bool (test n)) [
  | inl passes ↦ rw passes (rw (le-ltb n m h) refl)
  | inr fails ↦ rw fails refl
]

all_lower : (test : ℕ → Bool) (n m : ℕ) → n ≤ m → filter (λ x. ltb x m) (filter test (below n)) ≡ filter test (below n)
all_lower test zero m h = refl
all_lower test (suc n) m h = rw (
  kept_next test n,
  filter-append (λ x. ltb x m) (filter test (below n)) (cond (test n) (n ∷ []) []),
  all_lower test n m (omega arith),
  one_low test n m (omega arith),
) refl

-- those of them that are smaller than m
lower : (test : ℕ → Bool) (n m : ℕ) → m ≤ n → filter (λ x. ltb x m) (filter test (below n)) ≡ filter test (below m)
lower test zero zero h = refl
lower test zero (suc m) h = absurd (omega arith)
lower test (suc n) m h = elim (cases_lt n m) [
  | inl last ↦ let same : m ≡ suc n = omega arith in rw same (all_lower test (suc n) (suc n) (omega arith))
  | inr before ↦ rw (
    kept_next test n,
    filter-append (λ x. ltb x m) (filter test (below n)) (cond (test n) (n ∷ []) []),
    lower test n m before,
    one_high test n m before,
  ) (append-nil (filter test (below m)))
]

-- how many of them are smaller than m
pub place : (test : ℕ → Bool) (n m : ℕ) → m ≤ n → length (filter (λ x. ltb x m) (filter test (below n))) ≡ length (filter test (below m))
place test n m h = ap length (lower test n m h)

one_few : (b : Bool) (n : ℕ) → length (cond b (n ∷ []) []) ≤ 1
one_few true n = omega arith
one_few false n = omega arith

pub kept_few : (test : ℕ → Bool) (n : ℕ) → length (filter test (below n)) ≤ n
kept_few test zero = omega arith
kept_few test (suc n) = omega (
  arith,
  ap length (kept_next test n),
  length-append (filter test (below n)) (cond (test n) (n ∷ []) []),
  one_few (test n) n,
  kept_few test n,
)

-- a number that passes comes before the larger ones
pub place_less : (test : ℕ → Bool) (n p : ℕ) → p < n → test p ≡ true → length (filter test (below p)) < length (filter test (below n))
place_less test zero p h is = absurd (omega arith)
place_less test (suc n) p h is =
    let all : length (filter test (below (suc n))) ≡ length (filter test (below n)) + length (cond (test n) (n ∷ []) []) =
    ap length (kept_next test n) ∙ length-append (filter test (below n)) (cond (test n) (n ∷ []) []) in
    elim (cases_eq p n) [
      | inl here ↦
          let passes : test n ≡ true = sym (ap test here) ∙ is in
          let one : length (cond (test n) (n ∷ []) []) ≡ 1 = rw passes refl in
          rw here (omega (arith, all, one))
      | inr other ↦ omega (arith, all, place_less test n p (omega (arith, h, other)) is)
    ]

-- and it is at its place
pub at_place : (test : ℕ → Bool) (n p : ℕ) → p < n → test p ≡ true → get_or (filter test (below n)) (length (filter test (below p))) 0 ≡ p
at_place test zero p h is = absurd (omega arith)
at_place test (suc n) p h is = elim (cases_eq p n) [
  | inl here ↦
      let passes : test n ≡ true = sym (ap test here) ∙ is in
      rw (here, kept_next test n, passes) (get_or-append_seam (filter test (below n)) n [] 0)
  | inr other ↦
      let less : p < n = omega (arith, h, other) in
      rw (kept_next test n) (get_or_append_left (filter test (below n)) (cond (test n) (n ∷ []) []) 0 (length (filter test (below p)))
      (place_less test n p less is) ∙ at_place test n p less is)
]

-- what is at a place is below n, passes, and has this place
pub record IsKept (test : ℕ → Bool) (n i d : ℕ) : Type 0 where
  pub below_n : d < n
  pub passes : test d ≡ true
  pub place_is : length (filter test (below d)) ≡ i

pub kept_at : (test : ℕ → Bool) (n i : ℕ) → i < length (filter test (below n)) → IsKept test n i (get_or (filter test (below n)) i 0)
kept_at test zero i h = absurd (omega arith)
kept_at test (suc n) i h = elim (cases_lt i (length (filter test (below n)))) [
  | inl before ↦
      let rest = kept_at test n i before in
      rw (kept_next test n, get_or_append_left (filter test (below n)) (cond (test n) (n ∷ []) []) 0 i before) (record {
        below_n = omega (arith, rest.below_n);
        passes = rest.passes;
        place_is = rest.place_is;
      })
  | inr past ↦ elim (cases_Bool (test n)) [
    | inl passes ↦
        let all : filter test (below (suc n)) ≡ filter test (below n) ++ n ∷ [] = kept_next test n ∙ (rw passes refl) in
        let here : i ≡ length (filter test (below n)) = omega (arith, past, h, ap length all, length-append (filter test (below n)) (n ∷ [])) in
        let is : get_or (filter test (below (suc n))) i 0 ≡ n = rw (all, here) (get_or-append_seam (filter test (below n)) n [] 0) in
        rw is (record { below_n = omega arith; passes = passes; place_is = sym here })
    | inr fails ↦
        let all : filter test (below (suc n)) ≡ filter test (below n) = kept_next test n ∙ (rw fails (append-nil (filter test (below n)))) in
        absurd (omega (arith, past, h, ap length all))
  ]
]
