-- No load of the largest first is far above the mean.
use Rattle.std.proofs.Common.{◌≡◌, ◌∙◌, ◌+◌, ◌*◌, ◌<◌, ◌≤◌, ◌^◌, ◌&&◌, ◌==◌, ◌⊎◌, ℕ, zero, suc, Bool}
use Rattle.std.proofs.Common.{true, false, List, length, get_or, slice_index, cond, inl, inr, ⊎_elim, ap, arith, sym}
use Rattle.std.proofs.lemmas.Bool.{cases_Bool}
use Rattle.mds_types.specs.RankSet.{has_rank, rank_count}
use Rattle.mds_types.specs.Sums.{count_below, max_below, sum_below}
use Rattle.mds_types.proofs.SumsLemmas.{max_below-le, max_below-term, sum_below-le, sum_below-same}
use Rattle.ceph_plan.specs.declared.hours.Hour.{Hour}
use Rattle.ceph_plan.specs.Balance.{AreGreatest, IsNearMean, all_of_parts, greatest_by, hottest_of, load_by, load_of_parts}
use Rattle.ceph_plan.specs.Packing.{AreHours, greatest_of, heat_in, load_in, pinned_at, pinned_in, total_of, worst}
use Rattle.ceph_plan.proofs.Bounds.{greatest-term, max_reached, rank-small, total-load}
use Rattle.ceph_plan.proofs.HourSums.{max-sums, pinned-small}

-- a load is at most what is pinned there, the root's part with what is pinned at rank 0, the limit, or the means of the
-- hours and the hottest part
abbrev pub IsFairLoad : ℕ → List Hour → List ℕ → ℕ → ℕ → ℕ → ℕ → Type 0
IsFairLoad ranks hours heats root limit r load =
    (load ≤ worst hours (λ h. pinned_at hours h r))
    ⊎ ((load ≤ worst hours (λ h. pinned_at hours h 0 + heat_in hours h root))
    ⊎ ((load ≤ limit)
    ⊎ (load * rank_count ranks ≤ all_of_parts ranks hours heats + hottest_of heats * rank_count ranks)))

least_times : (n g : ℕ) (has : ℕ → Bool) (f : ℕ → ℕ) → ((r : ℕ) → has r ≡ true → g ≤ f r) → g * count_below n has ≤ sum_below n (λ r. cond (has r) (f r) 0)
least_times zero g has f h = omega arith
least_times (suc n) g has f h =
    ⊎_elim (λ (is : has n ≡ true). rw is (omega (arith, least_times n g has f h, h n is)))
    (λ (is : has n ≡ false). rw is (omega (arith, least_times n g has f h)))
    (cases_Bool (has n))

-- the least for each rank is at most the sum
total-ge : (ranks g : ℕ) (f : ℕ → ℕ) → ((r : ℕ) → has_rank ranks r ≡ true → g ≤ f r) → g * rank_count ranks ≤ total_of ranks f
unfolding total_of rank_count
total-ge ranks g f h = least_times 64 g (has_rank ranks) f h

total-mono : (ranks : ℕ) (f g : ℕ → ℕ) → ((r : ℕ) → has_rank ranks r ≡ true → f r ≤ g r) → total_of ranks f ≤ total_of ranks g
unfolding total_of
total-mono ranks f g h =
    sum_below-le 64 (λ r. cond (has_rank ranks r) (f r) 0) (λ r. cond (has_rank ranks r) (g r) 0) (λ r l.
    ⊎_elim (λ (is : has_rank ranks r ≡ true). rw is (h r is)) (λ (is : has_rank ranks r ≡ false). rw is (omega arith)) (cases_Bool (has_rank ranks r)))

-- as much more at each rank
times_more : (n c : ℕ) (has : ℕ → Bool) (f : ℕ → ℕ)
    → sum_below n (λ r. cond (has r) (f r + c) 0) ≡ sum_below n (λ r. cond (has r) (f r) 0) + c * count_below n has
times_more zero c has f = omega arith
times_more (suc n) c has f =
    ⊎_elim (λ (is : has n ≡ true). rw is (omega (arith, times_more n c has f)))
    (λ (is : has n ≡ false). rw is (omega (arith, times_more n c has f)))
    (cases_Bool (has n))

total-more : (ranks c : ℕ) (f : ℕ → ℕ) → total_of ranks (λ r. f r + c) ≡ total_of ranks f + c * rank_count ranks
unfolding total_of rank_count
total-more ranks c f = times_more 64 c (has_rank ranks) f

sums_add : (n : ℕ) (has : ℕ → Bool) (f g : ℕ → ℕ)
    → sum_below n (λ r. cond (has r) (f r + g r) 0) ≡ sum_below n (λ r. cond (has r) (f r) 0) + sum_below n (λ r. cond (has r) (g r) 0)
sums_add zero has f g = omega arith
sums_add (suc n) has f g =
    ⊎_elim (λ (is : has n ≡ true). rw is (omega (arith, sums_add n has f g)))
    (λ (is : has n ≡ false). rw is (omega (arith, sums_add n has f g)))
    (cases_Bool (has n))

total-add : (ranks : ℕ) (f g : ℕ → ℕ) → total_of ranks (λ r. f r + g r) ≡ total_of ranks f + total_of ranks g
unfolding total_of
total-add ranks f g = sums_add 64 (has_rank ranks) f g

sums_zero : (n : ℕ) (has : ℕ → Bool) → sum_below n (λ r. cond (has r) 0 0) ≡ 0
sums_zero zero has = omega arith
sums_zero (suc n) has =
    ⊎_elim (λ (is : has n ≡ true). rw is (omega (arith, sums_zero n has)))
    (λ (is : has n ≡ false). rw is (omega (arith, sums_zero n has)))
    (cases_Bool (has n))

total-zero : (ranks : ℕ) → total_of ranks (λ r. 0) ≡ 0
unfolding total_of
total-zero ranks = sums_zero 64 (has_rank ranks)

-- the sum over the ranks, hour by hour
total-swap : (ranks n : ℕ) (f : ℕ → ℕ → ℕ) → total_of ranks (λ r. sum_below n (λ h. f h r)) ≡ sum_below n (λ h. total_of ranks (f h))
total-swap ranks zero f = total-zero ranks
total-swap ranks (suc n) f = total-add ranks (λ r. sum_below n (λ h. f h r)) (f n) ∙ ap (λ (x : ℕ). x + total_of ranks (f n)) (total-swap ranks n f)

total-parts : (ranks : ℕ) (hours : List Hour) (heats rank : List ℕ) → ((p : ℕ) → p < length heats → has_rank ranks (slice_index rank p) ≡ true)
    → total_of ranks (λ r. sum_below (length hours) (λ h. load_in hours (length heats) (slice_index rank) h r)) ≡ all_of_parts ranks hours heats
total-parts ranks hours heats rank usable =
    total-swap ranks (length hours) (λ h r. load_in hours (length heats) (slice_index rank) h r)
    ∙ sum_below-same (length hours) (λ h. total_of ranks (load_in hours (length heats) (slice_index rank) h))
    (λ h. total_of ranks (pinned_at hours h) + sum_below (length heats) (heat_in hours h))
    (λ h l. total-load ranks (pinned_in hours h) (length heats) (heat_in hours h) (slice_index rank) usable)

-- some parts load no more than all
by-some : (hours : List Hour) (heats rank : List ℕ) (some : ℕ → Bool) (h r : ℕ)
    → load_by hours heats rank some h r ≤ load_in hours (length heats) (slice_index rank) h r
by-some hours heats rank some h r =
    let sums : sum_below (length heats) (λ q. cond (some q && (get_or rank q 0 == r)) (heat_in hours h q) 0)
    ≤ sum_below (length heats) (λ q. cond (get_or rank q 0 == r) (heat_in hours h q) 0) =
    sum_below-le (length heats) (λ q. cond (some q && (get_or rank q 0 == r)) (heat_in hours h q) 0) (λ q. cond (get_or rank q 0 == r) (heat_in hours h q) 0)
    (λ q l. fewer (some q) (get_or rank q 0 == r) (heat_in hours h q)) in
    omega (arith, sums)
  where
    fewer : (a b : Bool) (x : ℕ) → cond (a && b) x 0 ≤ cond b x 0
    fewer true b x = omega arith
    fewer false true x = omega arith
    fewer false false x = omega arith

-- a load is no more than all that there is
pub load-small : (hours : List Hour) (heats rank : List ℕ) (some : ℕ → Bool) (h r : ℕ)
    → load_by hours heats rank some h r ≤ pinned_at hours h r + sum_below (length heats) (heat_in hours h)
load-small hours heats rank some h r =
    let sums : sum_below (length heats) (λ q. cond (some q && (get_or rank q 0 == r)) (heat_in hours h q) 0) ≤ sum_below (length heats) (heat_in hours h) =
    sum_below-le (length heats) (λ q. cond (some q && (get_or rank q 0 == r)) (heat_in hours h q) 0) (heat_in hours h)
    (λ q l. fewer (some q && (get_or rank q 0 == r)) (heat_in hours h q)) in
    omega (arith, sums)
  where
    fewer : (b : Bool) (x : ℕ) → cond b x 0 ≤ x
    fewer true x = omega arith
    fewer false x = omega arith

pub worst-small : (hours : List Hour) (heats rank : List ℕ) (r : ℕ) → AreHours hours (length heats) → r < 64
    → load_of_parts hours heats rank r ≤ 2 ^ 57 + 2 ^ 56
worst-small hours heats rank r are small = max_below-le (length hours) (2 ^ 57 + 2 ^ 56) (λ h. load_in hours (length heats) (slice_index rank) h r) (λ h l.
    omega (arith, load-small hours heats rank (λ q. true) h r, pinned-small hours h r are.pinned l small, are.total h l))

-- a part that goes where it makes the least load
pub fair-least : (ranks : ℕ) (hours : List Hour) (heats rank : List ℕ) (some : ℕ → Bool) (load : ℕ → ℕ) (k to : ℕ) → k < length heats → AreGreatest hours heats
    → ((p : ℕ) → p < length heats → has_rank ranks (slice_index rank p) ≡ true)
    → ((r : ℕ) → r < 64 → load r ≡ worst hours (λ h. load_by hours heats rank some h r + heat_in hours h k))
    → ((r : ℕ) → has_rank ranks r ≡ true → load to ≤ load r)
    → load to * rank_count ranks ≤ all_of_parts ranks hours heats + hottest_of heats * rank_count ranks
fair-least ranks hours heats rank some load k to inside greatest usable is least =
    let m : ℕ = rank_count ranks in
    let all : ℕ → ℕ = λ r. sum_below (length hours) (λ h. load_in hours (length heats) (slice_index rank) h r) in
    let hot : slice_index heats k ≤ hottest_of heats = max_below-term (length heats) k (slice_index heats) inside in
    let first : load to * m ≤ total_of ranks load = total-ge ranks (load to) load least in
    let each : (r : ℕ) → has_rank ranks r ≡ true → load r ≤ all r + hottest_of heats = λ r has.
    let sums : sum_below (length hours) (λ h. load_by hours heats rank some h r) ≤ all r =
    sum_below-le (length hours) (λ h. load_by hours heats rank some h r) (λ h. load_in hours (length heats) (slice_index rank) h r)
    (λ h l. by-some hours heats rank some h r) in
    omega (
      arith,
      is r (rank-small ranks r has),
      max-sums (length hours) (λ h. load_by hours heats rank some h r) (λ h. heat_in hours h k),
      greatest k inside,
      hot,
      sums,
    ) in
    let second : total_of ranks load ≤ total_of ranks (λ r. all r + hottest_of heats) = total-mono ranks load (λ r. all r + hottest_of heats) each in
    omega (arith, first, second, total-more ranks (hottest_of heats) all, total-parts ranks hours heats rank usable)

-- the greatest is at some rank of the set
greatest-reached : (ranks : ℕ) (f : ℕ → ℕ) → (greatest_of ranks f ≡ 0) ⊎ ((r : ℕ) × (has_rank ranks r ≡ true) × (f r ≡ greatest_of ranks f))
unfolding greatest_of
greatest-reached ranks f = reached (has_rank ranks) f
  where
    reached : (has : ℕ → Bool) (f : ℕ → ℕ) → (max_below 64 (λ r. cond (has r) (f r) 0) ≡ 0)
        ⊎ ((r : ℕ) × (has r ≡ true) × (f r ≡ max_below 64 (λ r. cond (has r) (f r) 0)))
    reached has f = elim (max_reached 64 (λ r. cond (has r) (f r) 0)) [
      | inl none ↦ inl none
      | inr some ↦ elim (cases_Bool (has some.0)) [
        | inl is ↦ inr (some.0, is, sym (ap (λ (b : Bool). cond b (f some.0) 0) is) ∙ some.2)
        | inr not ↦ inl (sym some.2 ∙ ap (λ (b : Bool). cond b (f some.0) 0) not)
      ]
    ]

pub near-mean : (ranks : ℕ) (hours : List Hour) (heats rank : List ℕ) (root : ℕ)
    → ((r : ℕ) → has_rank ranks r ≡ true → IsFairLoad ranks hours heats root 0 r (load_of_parts hours heats rank r))
    → IsNearMean ranks hours heats root (greatest_by ranks hours heats rank)
near-mean ranks hours heats rank root fair = elim (greatest-reached ranks (load_of_parts hours heats rank)) [
  | inl none ↦ inl (omega (arith, none))
  | inr some ↦ elim (fair some.0 some.1) [
    | inl few ↦ inl (omega (arith, some.2, few, greatest-term ranks some.0 (λ r. worst hours (λ h. pinned_at hours h r)) some.1))
    | inr more ↦ elim more [
      | inl rooted ↦ inr (inl (omega (arith, some.2, rooted)))
      | inr other ↦ elim other [
        | inl zero_load ↦ inl (omega (arith, some.2, zero_load))
        | inr mean ↦ inr (inr (omega (arith, mean, ap (λ (x : ℕ). x * rank_count ranks) some.2)))
      ]
    ]
  ]
]
