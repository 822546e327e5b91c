-- Prices, rank by rank.
use Rattle.std.proofs.Common.{◌≡◌, ◌<◌, ℕ, pos, ◌+ℤ◌, true, List, length, subst, refl}
use Rattle.mds_types.specs.declared.dual_proof.DualProof.{DualProof}
use Rattle.mds_types.specs.RankSet.{has_rank, rank_count}
use Rattle.mds_types.specs.Certificate.{AreRanks, part_price_at, rank_price_at}
use Rattle.mds_types.proofs.PlacingLemmas.{has_rank-lt}
use Rattle.plan_checker.specs.Costs.{cell_at, cell_at_place, rank_place}
use Rattle.plan_checker.specs.CostPrices.{ArePrices}
use Rattle.plan_checker.specs.Prices.{RankPriceHolds}

-- prices hold where they hold at each rank of the set
pub ArePrices-from_ranks :
    (ranks k : ℕ) (cost : ℕ → ℕ → ℕ) (rank : ℕ → ℕ) (dual : DualProof) → AreRanks ranks k rank
    → length dual.part_price ≡ k → length dual.rank_price ≡ rank_count ranks
    → ((r : ℕ) → r < 64 → has_rank ranks r ≡ true
    → RankPriceHolds k rank (part_price_at dual) (λ p. cost p r) r (rank_price_at dual ranks r))
    → ArePrices ranks k cost rank dual
ArePrices-from_ranks ranks k cost rank dual are parts prices held = record {
  part_prices = parts;
  rank_prices = prices;
  below = λ part r l has. (held r (has_rank-lt ranks r has) has).below part l;
  not_above = λ r has. (held r (has_rank-lt ranks r has) has).not_above;
  unused = λ r has none. (held r (has_rank-lt ranks r has) has).unused none;
  chosen = λ part l.
      (held (rank part) (has_rank-lt ranks (rank part) (are.usable part l)) (are.usable part l)).chosen part l refl;
}

pub ranks_from_ArePrices :
    (ranks k : ℕ) (cost : ℕ → ℕ → ℕ) (rank : ℕ → ℕ) (dual : DualProof) → ArePrices ranks k cost rank dual
    → (r : ℕ) → has_rank ranks r ≡ true
    → RankPriceHolds k rank (part_price_at dual) (λ p. cost p r) r (rank_price_at dual ranks r)
ranks_from_ArePrices ranks k cost rank dual is r has = record {
  not_above = is.not_above r has;
  unused = is.unused r has;
  below = λ part l. is.below part r l has;
  chosen = λ part l same.
      (let P : ℕ → Type 0 = λ x. (part_price_at dual part +ℤ rank_price_at dual ranks x) ≡ pos (cost part x) in
      subst P same (is.chosen part l));
}

-- the costs at the place of a rank are the costs at the rank
pub column_is :
    (ranks : ℕ) (cells : List ℕ) (width place r : ℕ) → width ≡ rank_count ranks → place ≡ rank_place ranks r
    → ◌≡◌ {A = ℕ → ℕ} (λ p. cell_at_place cells width p place) (λ p. cell_at ranks cells p r)
unfolding cell_at_place
column_is ranks cells width place r width_is place_is = rw (width_is, place_is) refl
