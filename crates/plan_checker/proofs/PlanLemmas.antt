-- What the checker's tests of a plan come to.
use Rattle.std.proofs.Common.{◌≡◌, ◌∙◌, ◌↔◌, sym, ℕ, List, length, IsTrue, Bool}
use Rattle.mds_types.specs.declared.plan.Plan.{Plan}
use Rattle.mds_types.specs.Certificate.{AreRanks, IsCutCertified, IsCertified, plan_label, plan_rank}
use Rattle.mds_types.specs.Problem.{ProblemData}
use Rattle.mds_types.specs.Placing.{cost}
use Rattle.mds_types.specs.RankSet.{rank_count}
use Rattle.mds_types.proofs.CertificateLemmas.{IsCertified-from}
use Rattle.plan_checker.specs.Costs.{cell_at, chosen_cost, AreCosts}
use Rattle.plan_checker.specs.CostPrices.{ArePrices}
use Rattle.plan_checker.proofs.PriceLemmas.{prices_over, dual_from_prices, prices_from_dual, moved-cells}

-- a plan with a certified division and different ranks is certified where its placing holds
pub certified_by_placing :
    (problem : ProblemData) (plan : Plan) (cells : List ℕ) (answer : Bool)
    → AreRanks problem.ranks (length plan.rank) (plan_rank plan)
    → IsCutCertified problem.rows (rank_count problem.ranks) plan.part (length plan.rank) plan.greatest plan.cut
    → AreCosts problem.rows (plan_label plan) (length plan.rank) problem.ranks cells
    → (IsTrue answer
    ↔ ((chosen_cost problem.ranks cells (length plan.rank) (plan_rank plan) ≡ plan.moved)
    × ArePrices problem.ranks (length plan.rank) (cell_at problem.ranks cells) (plan_rank plan) plan.dual))
    → IsTrue answer ↔ IsCertified problem plan
certified_by_placing problem plan cells answer are division costs holds =
    let k = length plan.rank in
    let moved_is = moved-cells problem.rows k problem.ranks (plan_label plan) (plan_rank plan) cells division.parts.division.below
    are costs in (
      λ yes_is.
          (let both = holds.0 yes_is in
          IsCertified-from problem plan are division (sym moved_is ∙ both.0)
          (dual_from_prices problem.rows problem.ranks k (plan_label plan) (plan_rank plan) plan.dual
          (prices_over problem.ranks k (cell_at problem.ranks cells) (cost problem.rows (plan_label plan)) (plan_rank plan) plan.dual
          are costs.costs both.1))),
      λ is.
          holds.1 (
            moved_is ∙ is.moved_is,
            prices_over problem.ranks k (cost problem.rows (plan_label plan)) (cell_at problem.ranks cells) (plan_rank plan) plan.dual
                are (λ p r l has. sym (costs.costs p r l has))
                (prices_from_dual problem.rows problem.ranks k (plan_label plan) (plan_rank plan) plan.dual is.dual),
          ),
    )
