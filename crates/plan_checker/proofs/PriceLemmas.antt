-- Prices over a table of costs are prices over the costs.
use Rattle.std.proofs.Common.{◌≡◌, ◌∙◌, ◌<◌, ◌≤ℤ◌, ◌+ℤ◌, ap, sym, subst, ℕ, pos, true, List, length}
use Rattle.mds_types.specs.declared.problem.ProblemRow.{ProblemRow}
use Rattle.mds_types.specs.declared.dual_proof.DualProof.{DualProof}
use Rattle.mds_types.specs.RankSet.{has_rank}
use Rattle.mds_types.specs.Placing.{cost, moved}
use Rattle.mds_types.specs.Certificate.{AreRanks, IsDualProof, part_price_at, rank_price_at}
use Rattle.mds_types.proofs.SumsLemmas.{sum_below-same}
use Rattle.mds_types.proofs.PlacingLemmas.{moved-cost}
use Rattle.plan_checker.specs.Costs.{cell_at, chosen_cost, AreCosts}
use Rattle.plan_checker.specs.CostPrices.{ArePrices}

-- prices over other costs that are the same
pub prices_over :
    (ranks k : ℕ) (cost other : ℕ → ℕ → ℕ) (rank : ℕ → ℕ) (dual : DualProof) → AreRanks ranks k rank
    → ((p r : ℕ) → p < k → has_rank ranks r ≡ true → cost p r ≡ other p r)
    → ArePrices ranks k cost rank dual → ArePrices ranks k other rank dual
prices_over ranks k cost other rank dual are same is = record {
  part_prices = is.part_prices;
  rank_prices = is.rank_prices;
  below = λ part r l has.
      subst (λ (x : ℕ). (part_price_at dual part +ℤ rank_price_at dual ranks r) ≤ℤ pos x) (same part r l has) (is.below part r l has);
  not_above = is.not_above;
  unused = is.unused;
  chosen = λ part l. is.chosen part l ∙ ap pos (same part (rank part) l (are.usable part l));
}

pub dual_from_prices :
    (rows : List ProblemRow) (ranks k : ℕ) (label rank : ℕ → ℕ) (dual : DualProof)
    → ArePrices ranks k (cost rows label) rank dual → IsDualProof rows ranks k label rank dual
dual_from_prices rows ranks k label rank dual is = record {
  part_prices = is.part_prices;
  rank_prices = is.rank_prices;
  below = is.below;
  not_above = is.not_above;
  unused = is.unused;
  chosen = is.chosen;
}

pub prices_from_dual :
    (rows : List ProblemRow) (ranks k : ℕ) (label rank : ℕ → ℕ) (dual : DualProof)
    → IsDualProof rows ranks k label rank dual → ArePrices ranks k (cost rows label) rank dual
prices_from_dual rows ranks k label rank dual is = record {
  part_prices = is.part_prices;
  rank_prices = is.rank_prices;
  below = is.below;
  not_above = is.not_above;
  unused = is.unused;
  chosen = is.chosen;
}

-- what moves is the sum of the chosen cells
pub moved-cells :
    (rows : List ProblemRow) (k ranks : ℕ) (label rank : ℕ → ℕ) (cells : List ℕ)
    → ((i : ℕ) → i < length rows → label i < k) → AreRanks ranks k rank → AreCosts rows label k ranks cells
    → chosen_cost ranks cells k rank ≡ moved rows label rank
moved-cells rows k ranks label rank cells below are costs =
    sum_below-same k (λ p. cell_at ranks cells p (rank p)) (λ p. cost rows label p (rank p))
    (λ p l. costs.costs p (rank p) l (are.usable p l))
    ∙ sym (moved-cost rows k label rank below)
