-- Ranks and prices that a matching gives.
use Rattle.std.proofs.Common.{All, ◌^◌, ◌≡◌, ◌≢◌, ◌∙◌, ap, sym, refl, subst, ℕ, zero, suc, pos, neg_ℤ, ◌+ℤ◌, ◌≤ℤ◌}
use Rattle.std.proofs.Common.{◌+◌, ◌-◌, ◌*◌, ◌<◌, ◌≤◌, Bool, true, false, cond, List, length, slice_index_or, arith, ⊎_elim, mul_comm}
use Rattle.std.proofs.lemmas.Bool.{cases_lt, cases_Bool}
use Rattle.std.proofs.lemmas.Int.{ints}
use Rattle.std.proofs.lemmas.Nat.{mul-add-lt}
use Rattle.mds_types.specs.declared.dual_proof.DualProof.{DualProof}
use Rattle.mds_types.specs.Certificate.{AreRanks}
use Rattle.mds_types.specs.RankSet.{has_rank, rank_count}
use Rattle.mds_types.specs.Sums.{sum_below, count_below}
use Rattle.mds_types.proofs.PlacingLemmas.{has_rank-lt}
use Rattle.mds_types.proofs.SumsLemmas.{sum_below-le, sum_below-same, sum_below-add, sum_below-distinct, sum_below-cover}
use Rattle.plan_checker.specs.Costs.{cell_at, cell_at_place, chosen_cost, rank_place}
use Rattle.plan_checker.specs.CostPrices.{ArePrices}
use Rattle.plan_checker.proofs.PlaceLemmas.{place_inside}
use Rattle.rank_assign.specs.Matching.{IsMatching}

-- the cell at a rank is the cell at its place
pub cell_is : (ranks : ℕ) (cells : List ℕ) (p x : ℕ)
    → cell_at ranks cells p x ≡ cell_at_place cells (rank_count ranks) p (rank_place ranks x)
unfolding cell_at_place
cell_is ranks cells p x = refl

-- a cell of the table
pub cell_small :
    (cells : List ℕ) (k r : ℕ) → length cells ≡ k * r → All (λ cell. cell ≤ 2 ^ 48) cells
    → (p j : ℕ) → p < k → j < r → cell_at_place cells r p j ≤ 2 ^ 48
unfolding cell_at_place
cell_small cells k r size small p j lp lj =
    small (p * r + j) 0 (omega (arith, size, mul-add-lt p r j k lp lj, mul_comm k r))

-- each place is a rank's
place_of_some : (n j : ℕ) (p : ℕ → Bool) → j < count_below n p → (x : ℕ) × (x < n) × (p x ≡ true) × (count_below x p ≡ j)
place_of_some zero j p l = absurd (omega arith)
place_of_some (suc n) j p l =
    ⊎_elim
    (λ (before : j < count_below n p).
    let (x, lx, passes, is) = place_of_some n j p before in (x, omega arith, passes, is))
    (λ (here : count_below n p ≤ j). let both = last n j p here l in (n, omega arith, both.0, both.1))
    (cases_lt j (count_below n p))
  where
    passes : (b : Bool) (c j : ℕ) → c ≤ j → j < c + cond b 1 0 → (b ≡ true) × (c ≡ j)
    passes true c j le l = (refl, omega arith)
    passes false c j le l = absurd (omega arith)

    last : (n j : ℕ) (p : ℕ → Bool) → count_below n p ≤ j → j < count_below (suc n) p → (p n ≡ true) × (count_below n p ≡ j)
    last n j p le l = passes (p n) (count_below n p) j le l

pub rank_at_place : (ranks j : ℕ) → j < rank_count ranks → (x : ℕ) × (has_rank ranks x ≡ true) × (rank_place ranks x ≡ j)
unfolding rank_count
rank_at_place ranks j l =
    let (x, lx, has, is) = place_of_some 64 j (has_rank ranks) l in (x, has, is)

-- the rank of a part, and its place
pub record IsAt (ranks : ℕ) (owner rank : ℕ → ℕ) (p : ℕ) : Type 0 where
  pub has : has_rank ranks (rank p) ≡ true
  pub inside : rank_place ranks (rank p) < rank_count ranks
  pub owns : owner (rank_place ranks (rank p)) ≡ p + 1

module _
    (k ranks : ℕ) (cell : ℕ → ℕ → ℕ) (u w owner rank : ℕ → ℕ)
    (matching : IsMatching k (rank_count ranks) cell u w owner k)
    (given : (p x : ℕ) → has_rank ranks x ≡ true → owner (rank_place ranks x) ≡ p + 1 → rank p ≡ x) where
  pub at : (p : ℕ) → p < k → IsAt ranks owner rank p
  at p l =
      let (j, lj, owns) = matching.parts.placed p l in
      let (x, has, is) = rank_at_place ranks j lj in
      let same : rank p ≡ x = given p x has (ap owner is ∙ owns) in
      let P : ℕ → Type 0 = λ y. (has_rank ranks y ≡ true) × (rank_place ranks y < rank_count ranks)
      × (owner (rank_place ranks y) ≡ p + 1) in
      let here = subst P (sym same) (has, omega (arith, is, lj), ap owner is ∙ owns) in
      record { has = here.0; inside = here.1; owns = here.2 }

  pub are_ranks : AreRanks ranks k rank
  are_ranks = record {
    usable = λ p l. (at p l).has;
    distinct = λ p q lp lq same.
        (let same_owner : owner (rank_place ranks (rank p)) ≡ owner (rank_place ranks (rank q)) =
        ap (λ x. owner (rank_place ranks x)) same in
        omega (arith, same_owner, (at p lp).owns, (at q lq).owns));
  }

  -- a rank that no part has owes nothing
  pub unused_free : (x : ℕ) → has_rank ranks x ≡ true → ((p : ℕ) → p < k → rank p ≢ x) → w (rank_place ranks x) ≡ 0
  unused_free x has none =
      let inside = place_inside ranks x has in
      ⊎_elim
      (λ (idle : owner (rank_place ranks x) < 1). matching.free (rank_place ranks x) inside (omega arith))
      (λ (busy : 1 ≤ owner (rank_place ranks x)).
      let p = owner (rank_place ranks x) - 1 in
      absurd
      (none (owner (rank_place ranks x) - 1) (omega (arith, matching.parts.owned (rank_place ranks x) inside))
      (given (owner (rank_place ranks x) - 1) x has (omega arith))))
      (cases_lt (owner (rank_place ranks x)) 1)

  -- no choice of different ranks costs less
  pub least_sum :
      (other : ℕ → ℕ) → AreRanks ranks k other
      → sum_below k (λ p. cell p (rank_place ranks (rank p))) ≤ sum_below k (λ p. cell p (rank_place ranks (other p)))
  least_sum other others =
      let owed : ℕ → ℕ = λ x. cond (has_rank ranks x) (w (rank_place ranks x)) 0 in
      let owed_is : (x : ℕ) → has_rank ranks x ≡ true → owed x ≡ w (rank_place ranks x) = λ x has. rw has refl in
      let chosen : ℕ → ℕ = λ p. cell p (rank_place ranks (rank p)) in
      let another : ℕ → ℕ = λ p. cell p (rank_place ranks (other p)) in
      let exact = sum_below-same k (λ p. chosen p + owed (rank p)) u (λ p l.
      omega (
        arith,
        matching.tight p (rank_place ranks (rank p)) l (at p l).inside (at p l).owns,
        owed_is (rank p) (at p l).has,
      )) in
      let within = sum_below-le k u (λ p. another p + owed (other p)) (λ p l.
      omega (
        arith,
        matching.below p (rank_place ranks (other p)) l (place_inside ranks (other p) (others.usable p l)),
        owed_is (other p) (others.usable p l),
      )) in
      let idle : (x : ℕ) → x < 64 → ((p : ℕ) → p < k → rank p ≢ x) → owed x ≡ 0 = λ x l none.
      ⊎_elim (λ (has : has_rank ranks x ≡ true). owed_is x has ∙ unused_free x has none)
      (λ (has_not : has_rank ranks x ≡ false). rw has_not refl)
      (cases_Bool (has_rank ranks x)) in
      let all_owed = sum_below-cover k 64 rank owed (λ p l. has_rank-lt ranks (rank p) (at p l).has) idle in
      let some_owed = sum_below-distinct k 64 other owed (λ p l. has_rank-lt ranks (other p) (others.usable p l)) others.distinct in
      add_up k chosen another u (λ p. owed (rank p)) (λ p. owed (other p)) exact within (le_through some_owed all_owed)
    where
      le_through : {a b c : ℕ} → a ≤ b → b ≤ c → a ≤ c
      le_through {a} {b} {c} l m = omega arith

      add_up :
          (k : ℕ) (c d u v x : ℕ → ℕ) → sum_below k (λ p. c p + v p) ≡ sum_below k u
          → sum_below k u ≤ sum_below k (λ p. d p + x p) → sum_below k x ≤ sum_below k v → sum_below k c ≤ sum_below k d
      add_up k c d u v x exact within owed =
          omega (arith, exact, within, owed, sum_below-add k c v, sum_below-add k d x)

below_ℤ : (u w c : ℕ) → u ≤ c + w → (pos u +ℤ neg_ℤ (pos w)) ≤ℤ pos c
below_ℤ u w c l = omega (arith, ints)

exact_ℤ : (u w c : ℕ) → u ≡ c + w → (pos u +ℤ neg_ℤ (pos w)) ≡ pos c
exact_ℤ u w c e = omega (arith, ints)

not_above_ℤ : (w : ℕ) → neg_ℤ (pos w) ≤ℤ pos 0
not_above_ℤ w = omega (arith, ints)

-- the prices of a matching are prices over the table
pub are_prices :
    (k ranks : ℕ) (cells : List ℕ) (u w owner rank : ℕ → ℕ) (dual : DualProof)
    → IsMatching k (rank_count ranks) (cell_at_place cells (rank_count ranks)) u w owner k
    → ((p x : ℕ) → has_rank ranks x ≡ true → owner (rank_place ranks x) ≡ p + 1 → rank p ≡ x)
    → length dual.part_price ≡ k → length dual.rank_price ≡ rank_count ranks
    → ((p : ℕ) → p < k → slice_index_or dual.part_price p (pos 0) ≡ pos (u p))
    → ((j : ℕ) → j < rank_count ranks → slice_index_or dual.rank_price j (pos 0) ≡ neg_ℤ (pos (w j)))
    → ArePrices ranks k (cell_at ranks cells) rank dual
are_prices k ranks cells u w owner rank dual matching given part_size rank_size parts owed =
    let cell : ℕ → ℕ → ℕ = cell_at_place cells (rank_count ranks) in
    record {
      part_prices = part_size;
      rank_prices = rank_size;
      below = λ p x l has.
          (let inside = place_inside ranks x has in
          rw (parts p l, owed (rank_place ranks x) inside, cell_is ranks cells p x)
          (below_ℤ (u p) (w (rank_place ranks x)) (cell_at_place cells (rank_count ranks) p (rank_place ranks x))
          (matching.below p (rank_place ranks x) l inside)));
      not_above = λ x has. rw (owed (rank_place ranks x) (place_inside ranks x has)) (not_above_ℤ (w (rank_place ranks x)));
      unused = λ x has none.
          owed (rank_place ranks x) (place_inside ranks x has)
          ∙ ap (λ (debt : ℕ). neg_ℤ (pos debt)) (unused_free k ranks cell u w owner rank matching given x has none);
      chosen = λ p l.
          (let here = at k ranks cell u w owner rank matching given p l in
          rw (parts p l, owed (rank_place ranks (rank p)) here.inside, cell_is ranks cells p (rank p))
          (exact_ℤ (u p) (w (rank_place ranks (rank p)))
          (cell_at_place cells (rank_count ranks) p (rank_place ranks (rank p)))
          (matching.tight p (rank_place ranks (rank p)) l here.inside here.owns)));
    }

-- and no placing on different ranks of the set costs less
pub least_cost :
    (k ranks : ℕ) (cells : List ℕ) (u w owner rank : ℕ → ℕ)
    → IsMatching k (rank_count ranks) (cell_at_place cells (rank_count ranks)) u w owner k
    → ((p x : ℕ) → has_rank ranks x ≡ true → owner (rank_place ranks x) ≡ p + 1 → rank p ≡ x)
    → (other : ℕ → ℕ) → AreRanks ranks k other → chosen_cost ranks cells k rank ≤ chosen_cost ranks cells k other
unfolding cell_at_place
least_cost k ranks cells u w owner rank matching given other others =
    least_sum k ranks (cell_at_place cells (rank_count ranks)) u w owner rank matching given other others
