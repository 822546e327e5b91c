-- Counting ranks that were reached.
use Rattle.std.proofs.Common.{◌≡◌, ◌≢◌, ℕ, zero, suc, ◌+◌, ◌<◌, ◌≤◌, Bool, true, false, cond, refl, ap, sym, ◌∙◌, arith, ⊎_elim}
use Rattle.std.proofs.lemmas.Bool.{cases_eq}
use Rattle.mds_types.specs.Sums.{sum_below, count_below}
use Rattle.mds_types.proofs.SumsLemmas.{sum_below-same, sum_below-distinct, sum_below-larger, count_below-le}

-- where one term is larger by 1, so is the sum
pub sum_below_one_more :
    (n b : ℕ) (f g : ℕ → ℕ) → b < n → g b ≡ f b + 1 → ((j : ℕ) → j < n → j ≢ b → g j ≡ f j) → sum_below n g ≡ sum_below n f + 1
sum_below_one_more zero b f g l here other = absurd (omega arith)
sum_below_one_more (suc n) b f g l here other =
    ⊎_elim
    (λ (last : b ≡ n).
    let rest : sum_below n g ≡ sum_below n f = sum_below-same n g f (λ j lj. other j (omega arith) (λ same. omega arith)) in
    let at_f : f b ≡ f n = ap f last in
    let at_g : g b ≡ g n = ap g last in
    omega arith)
    (λ (before : b ≢ n).
    omega (
      arith,
      sum_below_one_more n b f g (omega arith) here (λ j lj. other j (omega arith)),
      other n (omega arith) (λ same. before (sym same)),
    ))
    (cases_eq b n)

pub ones : (n : ℕ) → sum_below n (λ i. 1) ≡ n
ones zero = refl
ones (suc n) = omega (arith, ones n)

-- where fewer pass than there are, some number fails
pub some_fails : (n : ℕ) (p : ℕ → Bool) → count_below n p < n → (j : ℕ) × (j < n) × (p j ≡ false)
some_fails n p few =
    let (j, l, less) = sum_below-larger n (λ i. cond (p i) 1 0) (λ i. 1) (omega (arith, ones n)) in
    (j, l, fails (p j) less)
  where
    fails : (b : Bool) → cond b 1 0 < 1 → b ≡ false
    fails true less = absurd (omega arith)
    fails false less = refl

-- where as many pass as there are, each does
pub all_pass : (n j : ℕ) (p : ℕ → Bool) → count_below n p ≡ n → j < n → p j ≡ true
all_pass zero j p all l = absurd (omega arith)
all_pass (suc n) j p all l =
    ⊎_elim (λ (last : j ≡ n). ap p last ∙ passes (p n) (omega (arith, all, count_below-le n p)))
    (λ (before : j ≢ n). all_pass n j p (omega (arith, all, count_below-le n p, at_most (p n))) (omega arith))
    (cases_eq j n)
  where
    passes : (b : Bool) → 1 ≤ cond b 1 0 → b ≡ true
    passes true h = refl
    passes false h = absurd (omega arith)

    at_most : (b : Bool) → cond b 1 0 ≤ 1
    at_most true = omega arith
    at_most false = omega arith

-- different numbers below m are no more than m
pub distinct_le :
    (n m : ℕ) (f : ℕ → ℕ) → ((i : ℕ) → i < n → f i < m) → ((i j : ℕ) → i < n → j < n → f i ≡ f j → i ≡ j) → n ≤ m
distinct_le n m f inside distinct =
    omega (arith, ones n, ones m, sum_below-distinct n m f (λ i. 1) inside distinct)
