-- The numbers below a bound that pass a test, and what maps make of them.
use Rattle.std.proofs.Common.{◌≡◌, ℕ, zero, suc, ◌<◌, ◌≤◌, ◌+◌, ◌⊎◌, List, [], ◌∷◌, ◌++◌, length}
use Rattle.std.proofs.Common.{map, sym, ap, ◌∙◌, refl, arith, Bool, true, false, cond, get_or, inl, inr}
use Rattle.std.specs.Prelude.{filter}
use Rattle.std.specs.List.{Contains, range_with_len}
use Rattle.std.specs.List.Sorted.{IsStrictlyIncreasing}
use Rattle.std.proofs.lemmas.Bool.{cases_eq, false≢true}
use Rattle.std.proofs.lemmas.List.{map-id}
use Rattle.std.proofs.lemmas.List.Elements.{filter-append}
use Rattle.std.proofs.lemmas.List.FromFn.{get_or-range_with_len, length-range_with_len, map-range_with_len_more}
use Rattle.std.proofs.lemmas.List.Kept.{AllPairs-from_increasing, IsStrictlyIncreasing-filter}

head_kept : (b : Bool) (x : ℕ) (xs : List ℕ) (d : ℕ) → b ≡ true → x ≡ d → Contains (cond b (x ∷ xs) xs) d
head_kept true x xs d is same = (0, omega arith, same)
head_kept false x xs d is same = absurd (false≢true is)

tail_kept : (b : Bool) (x : ℕ) (xs : List ℕ) (d : ℕ) → Contains xs d → Contains (cond b (x ∷ xs) xs) d
tail_kept true x xs d h = (suc h.0, omega (arith, h.1), h.2)
tail_kept false x xs d h = h

kept_from : (test : ℕ → Bool) (a n d : ℕ) → a ≤ d → d < a + n → test d ≡ true → Contains (filter test (range_with_len a n)) d
kept_from test a zero d low high is = absurd (omega arith)
kept_from test a (suc n) d low high is = elim (cases_eq a d) [
  | inl here ↦ head_kept (test a) a (filter test (range_with_len (a + 1) n)) d (ap test here ∙ is) here
  | inr other ↦ tail_kept (test a) a (filter test (range_with_len (a + 1) n)) d
      (kept_from test (a + 1) n d (omega (arith, low, other)) (omega (arith, high)) is)
]

-- a number below n that passes is among those that are kept
pub kept_below : (test : ℕ → Bool) (n d : ℕ) → d < n → test d ≡ true → Contains (filter test (range_with_len 0 n)) d
kept_below test n d h is = kept_from test 0 n d (omega arith) (omega (arith, h)) is

first_or_rest : (b : Bool) (x : ℕ) (xs : List ℕ) (d k : ℕ) → k < length (cond b (x ∷ xs) xs) → get_or (cond b (x ∷ xs) xs) k d ≡ d
    → ((b ≡ true) × (x ≡ d)) ⊎ Contains xs d
first_or_rest true x xs d zero h is = inl (refl, is)
first_or_rest true x xs d (suc k) h is = inr (k, omega (arith, h), is)
first_or_rest false x xs d k h is = inr (k, h, is)

-- what is kept has passed, and lies between the ends
record IsKept (test : ℕ → Bool) (a n d : ℕ) : Type 0 where
  low : a ≤ d
  high : d < a + n
  passes : test d ≡ true

passes_from : (test : ℕ → Bool) (a n d : ℕ) → Contains (filter test (range_with_len a n)) d → IsKept test a n d
passes_from test a zero d h = absurd (omega (arith, h.1))
passes_from test a (suc n) d h = elim (first_or_rest (test a) a (filter test (range_with_len (a + 1) n)) d h.0 h.1 h.2) [
  | inl here ↦ record { low = omega (arith, here.1); high = omega (arith, here.1); passes = sym (ap test here.1) ∙ here.0 }
  | inr rest ↦
      let is = passes_from test (a + 1) n d rest in
      record { low = omega (arith, is.low); high = omega (arith, is.high); passes = is.passes }
]

-- and what is kept is below n and passes
pub passes_below : (test : ℕ → Bool) (n d : ℕ) → Contains (filter test (range_with_len 0 n)) d → (d < n) × (test d ≡ true)
passes_below test n d h = let is = passes_from test 0 n d h in (omega (arith, is.high), is.passes)

range_rises : (n : ℕ) → IsStrictlyIncreasing (range_with_len 0 n)
range_rises n k h =
    let size : length (range_with_len 0 n) ≡ n = length-range_with_len 0 n in
    let here : get_or (range_with_len 0 n) k 0 ≡ 0 + k = get_or-range_with_len 0 n k 0 (omega (arith, h, size)) in
    let next : get_or (range_with_len 0 n) (k + 1) 0 ≡ 0 + (k + 1) = get_or-range_with_len 0 n (k + 1) 0 (omega (arith, h, size)) in
    omega (arith, here, next)

pub kept_rises : (test : ℕ → Bool) (n : ℕ) → IsStrictlyIncreasing (filter test (range_with_len 0 n))
kept_rises test n = IsStrictlyIncreasing-filter test (range_with_len 0 n) (range_rises n)

range_more : (n : ℕ) → range_with_len 0 (n + 1) ≡ range_with_len 0 n ++ n ∷ []
range_more n = sym (map-id (range_with_len 0 (n + 1))) ∙ map-range_with_len_more (λ (d : ℕ). d) 0 n n (omega arith)
    ∙ ap (λ (ds : List ℕ). ds ++ n ∷ []) (map-id (range_with_len 0 n))

-- one number more
pub kept_more : (test : ℕ → Bool) (n : ℕ) → filter test (range_with_len 0 (n + 1)) ≡ filter test (range_with_len 0 n) ++ cond (test n) (n ∷ []) []
kept_more test n = ap (filter test) (range_more n) ∙ filter-append test (range_with_len 0 n) (n ∷ [])

-- of rising numbers an earlier one is smaller
pub places_rise : (xs : List ℕ) (i j : ℕ) → IsStrictlyIncreasing xs → i < j → j < length xs → get_or xs i 0 < get_or xs j 0
places_rise xs i j rises less inside = AllPairs-from_increasing xs rises i j 0 less inside

map_at : {A B : Type 0} (f : A → B) (xs : List A) (k : ℕ) (x : A) → k < length xs → get_or xs k x ≡ x
    → (k < length (map f xs)) × (get_or (map f xs) k (f x) ≡ f x)
map_at f [] k x h is = absurd (omega arith)
map_at f (y ∷ ys) zero x h is = (omega arith, ap f is)
map_at f (y ∷ ys) (suc k) x h is = let rest = map_at f ys k x (omega arith) is in (omega (arith, rest.0), rest.1)

pub Contains-map : {A B : Type 0} (f : A → B) (xs : List A) (x : A) → Contains xs x → Contains (map f xs) (f x)
Contains-map f xs x h = let at = map_at f xs h.0 x h.1 h.2 in (h.0, at.0, at.1)

mapped_at : {A B : Type 0} (f : A → B) (xs : List A) (k : ℕ) (y : B) → k < length (map f xs) → get_or (map f xs) k y ≡ y → (x : A) × Contains xs x × (f x ≡ y)
mapped_at f [] k y h is = absurd (omega arith)
mapped_at f (x ∷ xs) zero y h is = (x, (0, omega arith, refl), is)
mapped_at f (x ∷ xs) (suc k) y h is =
    let rest = mapped_at f xs k y (omega arith) is in
    (rest.0, (suc rest.1.0, omega (arith, rest.1.1), rest.1.2), rest.2)

-- an element of a mapped list is the value of an element
pub Contains-mapped : {A B : Type 0} (f : A → B) (xs : List A) (y : B) → Contains (map f xs) y → (x : A) × Contains xs x × (f x ≡ y)
Contains-mapped f xs y h = mapped_at f xs h.0 y h.1 h.2

pub rest_contains : {A : Type 0} (x y : A) (xs : List A) → Contains xs y → Contains (x ∷ xs) y
rest_contains x y xs h = (suc h.0, omega (arith, h.1), h.2)

-- functions that agree on each element
pub map_agree : {A B : Type 0} (f g : A → B) (xs : List A) → ((x : A) → Contains xs x → f x ≡ g x) → map f xs ≡ map g xs
map_agree f g [] same = refl
map_agree f g (x ∷ xs) same =
    let first : f x ≡ g x = same x (0, omega arith, refl) in
    let rest : map f xs ≡ map g xs = map_agree f g xs (λ y h. same y (rest_contains x y xs h)) in
    rw (first, rest) refl
