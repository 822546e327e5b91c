-- Why no assignment gets below the bound.
use Rattle.std.proofs.Common.{◌≡◌, ◌≢◌, ◌∙◌, ℕ, zero, suc, ◌+◌, ◌*◌, ◌/◌, ◌%◌, ◌<◌, ◌≤◌, min, max, List, length}
use Rattle.std.proofs.Common.{get_or, set, slice_index, Bool, true, false, cond, eqb, ◌⊎◌, inl, inr, ⊎_elim, refl, ap, sym, arith}
use Rattle.std.proofs.lemmas.Bool.{cases_Bool, cases_eq, cases_lt, and_parts, both_ways, eq-eqb, ltb-true, ne_eqb}
use Rattle.std.proofs.lemmas.Grind.{div_ceil_times}
use Rattle.std.proofs.lemmas.List.{get_or-set_other, get_or-set_same}
use Rattle.std.proofs.Math.Nat.{mul-le-mul_left, mul_comm}
use Rattle.mds_types.specs.RankSet.{has_rank, rank_count}
use Rattle.mds_types.specs.Sums.{count_below, max_below, sum_below}
use Rattle.mds_types.proofs.SumsLemmas.{max_below-le, max_below-term, sum_below-add, sum_below-pick}
use Rattle.mds_types.proofs.SumsLemmas.{sum_below-same, sum_below-swap, sum_below-term, sum_below-zero}
use Rattle.ceph_plan.specs.Packing.{IsAsGreat, IsBoundOf, greatest_of, total_of}

-- all numbers below 64 are seen
pub greatest_all : (ranks n m : ℕ) (f : ℕ → ℕ) → n ≡ 64 → m ≡ max_below n (λ r. cond (has_rank ranks r) (f r) 0) → m ≡ greatest_of ranks f
unfolding greatest_of
greatest_all ranks n m f all is = is ∙ ap (λ (k : ℕ). max_below k (λ r. cond (has_rank ranks r) (f r) 0)) all

pub total_all : (ranks n m : ℕ) (f : ℕ → ℕ) → n ≡ 64 → m ≡ sum_below n (λ r. cond (has_rank ranks r) (f r) 0) → m ≡ total_of ranks f
unfolding total_of
total_all ranks n m f all is = is ∙ ap (λ (k : ℕ). sum_below k (λ r. cond (has_rank ranks r) (f r) 0)) all

pub rank-small : (ranks r : ℕ) → has_rank ranks r ≡ true → r < 64
rank-small ranks r has = ltb-true r 64 (and_parts _ _ has).0

masked_term : (n r : ℕ) (has : ℕ → Bool) (f : ℕ → ℕ) → r < n → has r ≡ true → f r ≤ max_below n (λ q. cond (has q) (f q) 0)
masked_term n r has f small is =
    let term : cond (has r) (f r) 0 ≤ max_below n (λ q. cond (has q) (f q) 0) = max_below-term n r (λ q. cond (has q) (f q) 0) small in
    rw is at term

masked_le : (n b : ℕ) (has : ℕ → Bool) (f : ℕ → ℕ) → ((r : ℕ) → has r ≡ true → f r ≤ b) → max_below n (λ q. cond (has q) (f q) 0) ≤ b
masked_le n b has f h = max_below-le n b (λ q. cond (has q) (f q) 0) (λ r l.
    ⊎_elim (λ (is : has r ≡ true). rw is (h r is)) (λ (is : has r ≡ false). rw is (omega arith)) (cases_Bool (has r)))

pub greatest-term : (ranks r : ℕ) (f : ℕ → ℕ) → has_rank ranks r ≡ true → f r ≤ greatest_of ranks f
unfolding greatest_of
greatest-term ranks r f has = masked_term 64 r (has_rank ranks) f (rank-small ranks r has) has

pub greatest-le : (ranks b : ℕ) (f : ℕ → ℕ) → ((r : ℕ) → has_rank ranks r ≡ true → f r ≤ b) → greatest_of ranks f ≤ b
unfolding greatest_of
greatest-le ranks b f h = masked_le 64 b (has_rank ranks) f h

sum_times : (n g : ℕ) (has : ℕ → Bool) (f : ℕ → ℕ) → ((r : ℕ) → has r ≡ true → f r ≤ g) → sum_below n (λ r. cond (has r) (f r) 0) ≤ g * count_below n has
sum_times zero g has f h = omega arith
sum_times (suc n) g has f h =
    ⊎_elim (λ (is : has n ≡ true). rw is (omega (arith, sum_times n g has f h, h n is)))
    (λ (is : has n ≡ false). rw is (omega (arith, sum_times n g has f h)))
    (cases_Bool (has n))

-- the sum of the loads is at most the greatest for each rank
pub total-le : (ranks g : ℕ) (f : ℕ → ℕ) → ((r : ℕ) → has_rank ranks r ≡ true → f r ≤ g) → total_of ranks f ≤ g * rank_count ranks
unfolding total_of rank_count
total-le ranks g f h = sum_times 64 g (has_rank ranks) f h

positive : (n : ℕ) (has : ℕ → Bool) → 0 < n → has 0 ≡ true → 0 < count_below n has
positive n has some is =
    let term : cond (has 0) 1 0 ≤ count_below n has = sum_below-term n 0 (λ i. cond (has i) 1 0) some in
    let one : 1 ≤ count_below n has = rw is at term in
    omega (arith, one)

pub count-positive : (ranks : ℕ) → has_rank ranks 0 ≡ true → 0 < rank_count ranks
unfolding rank_count
count-positive ranks is = positive 64 (has_rank ranks) (omega arith) is

-- each row is at one rank
spread : (m n : ℕ) (has : ℕ → Bool) (to h : ℕ → ℕ) → ((i : ℕ) → i < n → has (to i) ≡ true) → ((i : ℕ) → i < n → to i < m)
    → sum_below m (λ r. cond (has r) (sum_below n (λ i. cond (eqb (to i) r) (h i) 0)) 0) ≡ sum_below n h
spread m n has to h usable small =
    sum_below-same m (λ r. cond (has r) (sum_below n (λ i. cond (eqb (to i) r) (h i) 0)) 0) (λ r. sum_below n (λ i. cond (eqb (to i) r) (h i) 0)) (λ r l.
    ⊎_elim (λ (is : has r ≡ true). rw is refl)
    (λ (is : has r ≡ false). rw is (sym (sum_below-zero n (λ i. cond (eqb (to i) r) (h i) 0) (λ i li.
    rw (ne_eqb (to i) r (λ same. both_ways (has r) is (sym (ap has same) ∙ usable i li))) refl))))
    (cases_Bool (has r)))
    ∙ (sum_below-swap m n (λ r i. cond (eqb (to i) r) (h i) 0)
    ∙ sum_below-same n (λ i. sum_below m (λ r. cond (eqb (to i) r) (h i) 0)) h (λ i li. sum_below-pick m (to i) (λ r. h i) (small i li)))

split_add : (b : Bool) (x y : ℕ) → cond b (x + y) 0 ≡ cond b x 0 + cond b y 0
split_add true x y = refl
split_add false x y = omega arith

pub totals : (m n : ℕ) (has : ℕ → Bool) (pinned to h : ℕ → ℕ) → ((i : ℕ) → i < n → has (to i) ≡ true) → ((i : ℕ) → i < n → to i < m)
    → sum_below m (λ r. cond (has r) (pinned r + sum_below n (λ i. cond (eqb (to i) r) (h i) 0)) 0)
    ≡ sum_below m (λ r. cond (has r) (pinned r) 0) + sum_below n h
totals m n has pinned to h usable small =
    sum_below-same m (λ r. cond (has r) (pinned r + sum_below n (λ i. cond (eqb (to i) r) (h i) 0)) 0)
    (λ r. cond (has r) (pinned r) 0 + cond (has r) (sum_below n (λ i. cond (eqb (to i) r) (h i) 0)) 0) (λ r l.
    split_add (has r) (pinned r) (sum_below n (λ i. cond (eqb (to i) r) (h i) 0)))
    ∙ (sum_below-add m (λ r. cond (has r) (pinned r) 0) (λ r. cond (has r) (sum_below n (λ i. cond (eqb (to i) r) (h i) 0)) 0)
    ∙ ap (λ (x : ℕ). sum_below m (λ r. cond (has r) (pinned r) 0) + x) (spread m n has to h usable small))

-- the loads of n directories that go to these ranks
abbrev pub loads_to : List ℕ → ℕ → (ℕ → ℕ) → (ℕ → ℕ) → ℕ → ℕ
loads_to pinned n heat to r = slice_index pinned r + sum_below n (λ i. cond (eqb (to i) r) (heat i) 0)

-- what is pinned and all heat are the sum of the loads
pub total-load : (ranks : ℕ) (pinned : List ℕ) (n : ℕ) (heat to : ℕ → ℕ) → ((i : ℕ) → i < n → has_rank ranks (to i) ≡ true)
    → total_of ranks (loads_to pinned n heat to) ≡ total_of ranks (slice_index pinned) + sum_below n heat
unfolding total_of
total-load ranks pinned n heat to usable = totals 64 n (has_rank ranks) (slice_index pinned) to heat usable (λ i l. rank-small ranks (to i) (usable i l))

ceil-le : (t r g : ℕ) → 0 < r → t ≤ g * r → t / r + min 1 (t % r) ≤ g
ceil-le t r g some le =
    let c : ℕ = t / r + min 1 (t % r) in
    ⊎_elim (λ (more : g < c).
    let times : (g + 1) * r ≤ c * r = rw (mul_comm (g + 1) r, mul_comm c r) (mul-le-mul_left r (let least : g + 1 ≤ c = omega (arith, more) in least)) in
    let ceil : c * r < t + r = (div_ceil_times t r some).1 in
    let none : ⊥ = omega (arith, times, ceil, le) in absurd none)
    (λ (fine : c ≤ g). fine)
    (cases_lt g c)

pub max_reached : (n : ℕ) (f : ℕ → ℕ) → (max_below n f ≡ 0) ⊎ ((i : ℕ) × (i < n) × (f i ≡ max_below n f))
max_reached zero f = inl refl
max_reached (suc n) f =
    ⊎_elim (λ (less : f n < max_below n f).
    let same : max (max_below n f) (f n) ≡ max_below n f = omega (arith, less) in
    elim (max_reached n f) [
      | inl none ↦ inl (same ∙ none)
      | inr some ↦ inr (some.0, omega (arith, some.1), some.2 ∙ sym same)
    ])
    (λ (most : max_below n f ≤ f n). inr (n, omega arith, omega (arith, most)))
    (cases_lt (f n) (max_below n f))

heat-there : (n i r : ℕ) (to h : ℕ → ℕ) → i < n → to i ≡ r → h i ≤ sum_below n (λ j. cond (eqb (to j) r) (h j) 0)
heat-there n i r to h l same =
    let term : cond (eqb (to i) r) (h i) 0 ≤ sum_below n (λ j. cond (eqb (to j) r) (h j) 0) = sum_below-term n i (λ j. cond (eqb (to j) r) (h j) 0) l in
    let here : eqb (to i) r ≡ true = same_eqb (to i) r same in
    rw here at term
  where
    same_eqb : (a b : ℕ) → a ≡ b → eqb a b ≡ true
    same_eqb a b e = eq-eqb a b e

-- the three bounds
pub lower : (ranks : ℕ) (pinned : List ℕ) (n : ℕ) (heat : ℕ → ℕ) (all hottest mean least : ℕ) → has_rank ranks 0 ≡ true
    → all ≤ sum_below n heat → hottest ≤ max_below n heat
    → mean ≡ (all + total_of ranks (slice_index pinned)) / rank_count ranks + min 1 ((all + total_of ranks (slice_index pinned)) % rank_count ranks)
    → ((r : ℕ) → has_rank ranks r ≡ true → least ≤ slice_index pinned r)
    → IsBoundOf ranks pinned n heat (max (max mean (hottest + least)) (greatest_of ranks (slice_index pinned)))
lower ranks pinned n heat all hottest mean least zero_in all_is hottest_is mean_is least_is to usable =
    let load : ℕ → ℕ = loads_to pinned n heat to in
    let g : ℕ = greatest_of ranks load in
    let each : (r : ℕ) → has_rank ranks r ≡ true → load r ≤ g = λ r has. greatest-term ranks r load has in
    let sums : total_of ranks load ≤ g * rank_count ranks = total-le ranks g load each in
    let sum : all + total_of ranks (slice_index pinned) ≤ g * rank_count ranks = omega (arith, sums, all_is, total-load ranks pinned n heat to usable) in
    let first : mean ≤ g = rw mean_is (ceil-le (all + total_of ranks (slice_index pinned)) (rank_count ranks) g (count-positive ranks zero_in) sum) in
    let second : hottest + least ≤ g = elim (max_reached n heat) [
      | inl none ↦ omega (arith, none, hottest_is, least_is 0 zero_in, each 0 zero_in)
      | inr some ↦
          let has : has_rank ranks (to some.0) ≡ true = usable some.0 some.1 in
          let there : heat some.0 ≤ sum_below n (λ i. cond (eqb (to i) (to some.0)) (heat i) 0) = heat-there n some.0 (to some.0) to heat some.1 refl in
          omega (arith, some.2, hottest_is, least_is (to some.0) has, each (to some.0) has, there)
    ] in
    let third : greatest_of ranks (slice_index pinned) ≤ g =
    greatest-le ranks g (slice_index pinned) (λ r has. let e : load r ≤ g = each r has in omega (arith, e)) in
    omega (arith, first, second, third)

-- the greatest is that of what is alike at the ranks of the set
pub greatest-same : (ranks : ℕ) (f h : ℕ → ℕ) → ((r : ℕ) → r < 64 → f r ≡ h r) → greatest_of ranks f ≡ greatest_of ranks h
greatest-same ranks f h same =
    let down : greatest_of ranks f ≤ greatest_of ranks h = greatest-le ranks (greatest_of ranks h) f (λ r has.
    omega (arith, same r (rank-small ranks r has), greatest-term ranks r h has)) in
    let up : greatest_of ranks h ≤ greatest_of ranks f = greatest-le ranks (greatest_of ranks f) h (λ r has.
    omega (arith, same r (rank-small ranks r has), greatest-term ranks r f has)) in
    omega (arith, down, up)

-- one more part has a rank of the set
pub set_usable : (ranks n k v : ℕ) (xs : List ℕ) → length xs ≡ n → ((p : ℕ) → p < n → has_rank ranks (get_or xs p 0) ≡ true)
    → has_rank ranks v ≡ true → (p : ℕ) → p < n → has_rank ranks (get_or (set xs k v) p 0) ≡ true
set_usable ranks n k v xs size before here p l =
    ⊎_elim (λ (same : p ≡ k). rw (same, get_or-set_same xs k v 0 (omega (arith, size, l, same))) here)
    (λ (other : p ≢ k). rw (get_or-set_other xs k p v 0 other) (before p l))
    (cases_eq p k)

-- the three are no more than the bound
pub as_great : (ranks : ℕ) (pinned : List ℕ) (n : ℕ) (heat : ℕ → ℕ) (all hottest mean least bound : ℕ) → has_rank ranks 0 ≡ true
    → all ≡ sum_below n heat → hottest ≡ max_below n heat
    → mean ≡ (all + total_of ranks (slice_index pinned)) / rank_count ranks + min 1 ((all + total_of ranks (slice_index pinned)) % rank_count ranks)
    → (r : ℕ) × (has_rank ranks r ≡ true) × (slice_index pinned r ≡ least)
    → bound ≡ max (max mean (hottest + least)) (greatest_of ranks (slice_index pinned))
    → IsAsGreat ranks pinned n heat bound
as_great ranks pinned n heat all hottest mean least bound zero_in all_is hottest_is mean_is one is =
    let sum : ℕ = all + total_of ranks (slice_index pinned) in
    let ceil : sum ≤ mean * rank_count ranks = rw mean_is (div_ceil_times sum (rank_count ranks) (count-positive ranks zero_in)).0 in
    let le : mean ≤ bound = omega (arith, is) in
    let times : mean * rank_count ranks ≤ bound * rank_count ranks =
    rw (mul_comm mean (rank_count ranks), mul_comm bound (rank_count ranks)) (mul-le-mul_left (rank_count ranks) le) in
    record {
      mean = omega (arith, ceil, times, all_is);
      least = (one.0, one.1, λ i l. omega (arith, is, one.2, hottest_is, max_below-term n i heat l));
      most = λ r has. omega (arith, is, greatest-term ranks r (slice_index pinned) has);
    }

-- the hottest is no hotter than all
pub max-sum : (n : ℕ) (heat : ℕ → ℕ) → max_below n heat ≤ sum_below n heat
max-sum n heat = max_below-le n (sum_below n heat) heat (λ i l. sum_below-term n i heat l)

-- the least so far, and where it is
pub record IsLeastBelow (ranks : ℕ) (numbers : List ℕ) (n so_far : ℕ) : Type 0 where
  pub least : (r : ℕ) → r < n → has_rank ranks r ≡ true → so_far ≤ slice_index numbers r
  pub one : (r : ℕ) × (has_rank ranks r ≡ true) × (slice_index numbers r ≡ so_far)

pub least_more : (ranks : ℕ) (numbers : List ℕ) (n old new : ℕ) → IsLeastBelow ranks numbers n old → has_rank ranks n ≡ true
    → new ≡ min (slice_index numbers n) old → IsLeastBelow ranks numbers (n + 1) new
least_more ranks numbers n old new so_far has is = record {
  least = λ r l has_r.
      ⊎_elim (λ (same : r ≡ n). rw same (omega (arith, is)))
      (λ (other : r ≢ n). omega (arith, is, so_far.least r (omega (arith, l, other)) has_r))
      (cases_eq r n);
  one =
      ⊎_elim (λ (less : slice_index numbers n < old). (n, has, omega (arith, less, is)))
      (λ (not_less : old ≤ slice_index numbers n). (so_far.one.0, so_far.one.1, omega (arith, not_less, is, so_far.one.2)))
      (cases_lt (slice_index numbers n) old);
}

pub least_passed : (ranks : ℕ) (numbers : List ℕ) (n old new : ℕ) → IsLeastBelow ranks numbers n old → has_rank ranks n ≡ false → new ≡ old
    → IsLeastBelow ranks numbers (n + 1) new
least_passed ranks numbers n old new so_far has is = record {
  least = λ r l has_r.
      ⊎_elim (λ (same : r ≡ n). absurd (both_ways (has_rank ranks n) has (ap (has_rank ranks) (sym same) ∙ has_r)))
      (λ (other : r ≢ n). omega (arith, is, so_far.least r (omega (arith, l, other)) has_r))
      (cases_eq r n);
  one = (so_far.one.0, so_far.one.1, so_far.one.2 ∙ sym is);
}
