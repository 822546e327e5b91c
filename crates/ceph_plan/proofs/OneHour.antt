-- What the only hour counts is its heat.
use Rattle.std.proofs.Common.{◌≡◌, ◌∙◌, ◌+◌, ◌<◌, ℕ, List, ap, arith, length, max, slice_index}
use Rattle.std.proofs.lemmas.List.{ext_get_or}
use Rattle.mds_types.specs.declared.problem.ProblemRow.{ProblemRow}
use Rattle.mds_types.specs.Problem.{heat_at, no_row, row_at}
use Rattle.mds_types.specs.Sums.{sum_below}
use Rattle.ceph_plan.specs.declared.hours.Hour.{Hour}
use Rattle.ceph_plan.specs.declared.shares.Shares.{Shares}
use Rattle.ceph_plan.specs.Packing.{IsOneHour, heat_in, heats_in, pinned_in}
use Rattle.ceph_plan.specs.Shares.{AreShares, CountFor, scale_of, share_of}
use Rattle.ceph_plan.proofs.Rounding.{alone}

-- these heats count as what they are
counts-all : (count bound weight : ℕ) (heats shares : List ℕ) → count ≡ 1 → CountFor count bound weight heats shares → shares ≡ heats
counts-all count bound weight heats shares one counts = ext_get_or 0 shares heats counts.size (λ i l.
    let some : 0 < max bound 1 = omega arith in
    let whole : scale_of count (max bound 1) weight ≡ max bound 1 = ap (λ (n : ℕ). scale_of n (max bound 1) weight) one in
    counts.each i (omega (arith, l, counts.size))
    ∙ (ap (λ (scale : ℕ). share_of scale (max bound 1) (slice_index heats i)) whole ∙ alone (max bound 1) (slice_index heats i) some))

module _ (ranks : ℕ) (rows : List ProblemRow) (pinned weights : List ℕ) (hours : List Hour) (found : Shares) (one : IsOneHour rows pinned hours)
    (are : AreShares ranks rows hours weights found) where
  first : 0 < length hours
  first = omega (arith, one.one)

  same-heats : heats_in found.hours.items 0 ≡ heats_in hours 0
  same-heats = counts-all (length hours) (slice_index found.bounds.items 0) (slice_index weights 0) (heats_in hours 0)
      (heats_in found.hours.items 0) one.one (are.heats 0 first)

  row-same : (i : ℕ) → i < length rows → row_at found.rows.items i ≡ row_at rows i
  row-same i l =
      let all : sum_below (length hours) (λ h. heat_in found.hours.items h i) ≡ heat_at rows i =
      ap (λ (n : ℕ). sum_below n (λ h. heat_in found.hours.items h i)) one.one
      ∙ (ap (λ (xs : List ℕ). 0 + slice_index xs i) same-heats ∙ (let heat : 0 + heat_in hours 0 i ≡ heat_at rows i = omega (arith, one.heats i l) in heat)) in
      are.rows_are i l ∙ ap (λ (n : ℕ). record (row_at rows i) { heat = n }) all

  pub one-rows : found.rows.items ≡ rows
  one-rows = ext_get_or no_row found.rows.items rows are.rows_size (λ i l. row-same i (omega (arith, l, are.rows_size)))

  pub one-shares : IsOneHour rows pinned found.hours.items
  one-shares = record {
    one = are.size ∙ one.one;
    pinned_is = counts-all (length hours) (slice_index found.bounds.items 0) (slice_index weights 0) (pinned_in hours 0)
        (pinned_in found.hours.items 0) one.one (are.pinned 0 first)
        ∙ one.pinned_is;
    size = ap length same-heats ∙ one.size;
    heats = λ i l. ap (λ (xs : List ℕ). slice_index xs i) same-heats ∙ one.heats i l;
  }
