-- Sums over rows, by the parts of the rows.
use Rattle.std.proofs.Common.{◌≡◌, ◌≢◌, ◌&&◌, ◌∙◌, ◌+◌, ◌*◌, ◌^◌, ◌<◌, ◌≤◌, ◌==◌, ℕ, Bool, true, false, List}
use Rattle.std.proofs.Common.{length, get_or, set, slice_index, cond, eqb, inl, inr, ⊎_elim, ap, arith, refl, subst, sym}
use Rattle.std.proofs.lemmas.Bool.{cases_eq, eq-eqb, ne_eqb}
use Rattle.std.proofs.lemmas.List.{get_or-set_other, get_or-set_same}
use Rattle.mds_types.specs.Sums.{max_below, sum_below}
use Rattle.mds_types.proofs.SumsLemmas.{sum_below-pick, sum_below-same, sum_below-swap, sum_below-zero, sum_below_more}
use Rattle.ceph_plan.specs.declared.hours.Hour.{Hour}
use Rattle.ceph_plan.specs.Balance.{ArePartHours, load_of_parts}
use Rattle.ceph_plan.specs.Packing.{AreHours, IsPinnedHeat, heat_in, load, load_in, packed_rank, pinned_at}
use Rattle.ceph_plan.proofs.HourSums.{max-same}

-- each row is in one part
by-parts : (count n : ℕ) (part h : ℕ → ℕ) → ((i : ℕ) → i < n → part i < count)
    → sum_below count (λ p. sum_below n (λ i. cond (eqb (part i) p) (h i) 0)) ≡ sum_below n h
by-parts count n part h below =
    sum_below-swap count n (λ p i. cond (eqb (part i) p) (h i) 0)
    ∙ sum_below-same n (λ i. sum_below count (λ p. cond (eqb (part i) p) (h i) 0)) h (λ i l. sum_below-pick count (part i) (λ p. h i) (below i l))

-- the parts have as much heat in each hour as the rows
pub hours-parts : (hours parts : List Hour) (n count : ℕ) (part : List ℕ) → AreHours hours n → ((i : ℕ) → i < n → slice_index part i < count)
    → ArePartHours hours n part count parts → AreHours parts count
hours-parts hours parts n count part are below of = record {
  pinned = λ h l. subst IsPinnedHeat (sym (of.pinned h (inside h l))) (are.pinned h (inside h l));
  size = λ h l. of.sizes h (inside h l);
  total = λ h l.
      let same : sum_below count (heat_in parts h) ≡ sum_below n (heat_in hours h) =
      sum_below-same count (heat_in parts h) (λ p. sum_below n (λ i. cond (eqb (slice_index part i) p) (heat_in hours h i) 0))
      (λ p lp. of.heats h p (inside h l) lp)
      ∙ by-parts count n (slice_index part) (heat_in hours h) below in
      omega (arith, same, are.total h (inside h l));
}
  where
    inside : (h : ℕ) → h < length parts → h < length hours
    inside h l = omega (arith, l, of.size)

-- a part's rows go where the part goes
spread : (b : Bool) (n p : ℕ) (part h : ℕ → ℕ)
    → cond b (sum_below n (λ i. cond (eqb (part i) p) (h i) 0)) 0 ≡ sum_below n (λ i. cond (eqb (part i) p) (cond b (h i) 0) 0)
spread true n p part h = refl
spread false n p part h = sym (sum_below-zero n (λ i. cond (eqb (part i) p) 0 0) (λ i l. none (eqb (part i) p) 0))
  where
    none : (b : Bool) (x : ℕ) → cond b x x ≡ x
    none true x = refl
    none false x = refl

to-parts : (count n r : ℕ) (part rank h : ℕ → ℕ) → ((i : ℕ) → i < n → part i < count)
    → sum_below count (λ p. cond (eqb (rank p) r) (sum_below n (λ i. cond (eqb (part i) p) (h i) 0)) 0)
    ≡ sum_below n (λ i. cond (eqb (rank (part i)) r) (h i) 0)
to-parts count n r part rank h below =
    sum_below-same count (λ p. cond (eqb (rank p) r) (sum_below n (λ i. cond (eqb (part i) p) (h i) 0)) 0)
    (λ p. sum_below n (λ i. cond (eqb (part i) p) (cond (eqb (rank p) r) (h i) 0) 0)) (λ p l. spread (eqb (rank p) r) n p part h)
    ∙ (sum_below-swap count n (λ p i. cond (eqb (part i) p) (cond (eqb (rank p) r) (h i) 0) 0)
    ∙ sum_below-same n (λ i. sum_below count (λ p. cond (eqb (part i) p) (cond (eqb (rank p) r) (h i) 0) 0))
    (λ i. cond (eqb (rank (part i)) r) (h i) 0) (λ i l. sum_below-pick count (part i) (λ p. cond (eqb (rank p) r) (h i) 0) (below i l)))

-- the load of a rank, from the rows and from the parts
pub load-parts : (hours parts : List Hour) (part heats rank : List ℕ) (n count r : ℕ) → length heats ≡ count
    → ((i : ℕ) → i < n → slice_index part i < count) → ArePartHours hours n part count parts
    → load hours n (packed_rank rank part) r ≡ load_of_parts parts heats rank r
load-parts hours parts part heats rank n count r size below of =
    max-same (length hours) (λ h. load_in hours n (packed_rank rank part) h r) (λ h. load_in parts (length heats) (slice_index rank) h r) (λ h l. in-hour h l)
    ∙ ap (λ (k : ℕ). max_below k (λ h. load_in parts (length heats) (slice_index rank) h r)) (sym of.size)
  where
    in-hour : (h : ℕ) → h < length hours → load_in hours n (packed_rank rank part) h r ≡ load_in parts (length heats) (slice_index rank) h r
    in-hour h l =
        let pinned : pinned_at parts h r ≡ pinned_at hours h r = ap (λ (xs : List ℕ). slice_index xs r) (of.pinned h l) in
        let sums : sum_below count (λ p. cond (eqb (slice_index rank p) r) (heat_in parts h p) 0)
        ≡ sum_below count (λ p. cond (eqb (slice_index rank p) r) (sum_below n (λ i. cond (eqb (slice_index part i) p) (heat_in hours h i) 0)) 0) =
        sum_below-same count (λ p. cond (eqb (slice_index rank p) r) (heat_in parts h p) 0)
        (λ p. cond (eqb (slice_index rank p) r) (sum_below n (λ i. cond (eqb (slice_index part i) p) (heat_in hours h i) 0)) 0)
        (λ p lp. ap (λ (x : ℕ). cond (eqb (slice_index rank p) r) x 0) (of.heats h p l lp)) in
        let all : sum_below (length heats) (λ p. cond (eqb (slice_index rank p) r) (heat_in parts h p) 0)
        ≡ sum_below count (λ p. cond (eqb (slice_index rank p) r) (heat_in parts h p) 0) =
        ap (λ (k : ℕ). sum_below k (λ p. cond (eqb (slice_index rank p) r) (heat_in parts h p) 0)) size in
        omega (arith, pinned, sums, all, to-parts count n r (slice_index part) (slice_index rank) (heat_in hours h) below)

-- one more row's inodes are at its part and its rank
pub cell-more : (inodes : List ℕ) (k v more p r part now : ℕ) → k ≡ part * 64 + now → now < 64 → r < 64 → k < length inodes → v ≡ get_or inodes k 0 + more
    → get_or (set inodes k v) (p * 64 + r) 0 ≡ get_or inodes (p * 64 + r) 0 + cond ((part == p) && (now == r)) more 0
cell-more inodes k v more p r part now is small here inside value =
    ⊎_elim (λ (same : p * 64 + r ≡ k).
    let parts : part ≡ p = omega (arith, same, is, small, here) in
    let ranks : now ≡ r = omega (arith, same, is, small, here) in
    rw (same, get_or-set_same inodes k v 0 inside, eq-eqb part p parts, eq-eqb now r ranks) value)
    (λ (other : p * 64 + r ≢ k).
    let apart : ((part == p) && (now == r)) ≡ false = elim (cases_eq part p) [
      | inl parts ↦ rw (eq-eqb part p parts) (ne_eqb now r (λ ranks. other (let same : p * 64 + r ≡ k = omega (arith, is, parts, ranks) in same)))
      | inr parts ↦ rw (ne_eqb part p parts) refl
    ] in
    rw (get_or-set_other inodes k (p * 64 + r) v 0 other, apart) (omega arith))
    (cases_eq (p * 64 + r) k)

pub cells-more : (n : ℕ) (f : ℕ → ℕ) (was here : ℕ) → was ≡ sum_below n f → here ≡ f n → was + here ≡ sum_below (n + 1) f
cells-more n f was here before last = omega (arith, sum_below_more n f, before, last)

-- the inodes of a part at a rank are no more than all that were added
pub cell-small : (inodes : List ℕ) (k v most more j : ℕ) → k < length inodes → v ≡ get_or inodes k 0 + more → more ≤ 2 ^ 32
    → get_or inodes j 0 ≤ most * 2 ^ 32 → get_or (set inodes k v) j 0 ≤ (most + 1) * 2 ^ 32
cell-small inodes k v most more j inside value few before =
    ⊎_elim (λ (same : j ≡ k).
    let here : get_or inodes k 0 ≤ most * 2 ^ 32 = subst (λ (i : ℕ). get_or inodes i 0 ≤ most * 2 ^ 32) same before in
    rw (same, get_or-set_same inodes k v 0 inside) (omega (arith, value, few, here)))
    (λ (other : j ≢ k). rw (get_or-set_other inodes k j v 0 other) (omega (arith, before)))
    (cases_eq j k)
