-- A least cut and a cheapest placing of its parts make a certified plan.
use Rattle.std.proofs.Common.{◌≡◌, ◌∙◌, ◌≤◌, ℕ, List, length, slice_index, arith}
use Rattle.mds_types.specs.declared.cut_proof.CutProof.{CutProof}
use Rattle.mds_types.specs.declared.plan.Plan.{Plan}
use Rattle.mds_types.specs.declared.problem.ProblemRow.{ProblemRow}
use Rattle.mds_types.specs.Certificate.{AreRanks, IsCutCertified, IsCutProof, IsCertified, plan_label, plan_rank}
use Rattle.mds_types.specs.Division.{part_heat, greatest_heat}
use Rattle.mds_types.specs.Placing.{IsPlacing, cost, moved}
use Rattle.mds_types.specs.Problem.{IsProblem, ProblemData}
use Rattle.mds_types.specs.RankSet.{rank_count}
use Rattle.mds_types.proofs.CertificateLemmas.{best, IsCertified-from, IsDivision-more, greatest_heat-more}
use Rattle.mds_types.proofs.SumsLemmas.{max_below-le}
use Rattle.minmax_search.specs.declared.found.BestCut.{BestCut}
use Rattle.minmax_search.specs.Found.{IsFound}
use Rattle.rank_assign.specs.Assigned.{CostData}
use Rattle.rank_assign.specs.declared.assigned.Assigned.{Assigned}
use Rattle.plan_checker.specs.Costs.{cell_at, chosen_cost, AreCosts}
use Rattle.plan_checker.specs.CostPrices.{ArePrices}
use Rattle.planner.specs.Present.{IsBestDivision}
use Rattle.plan_checker.proofs.PriceLemmas.{prices_over, dual_from_prices, moved-cells}

-- a cut that was found is certified
pub found_certified :
    (rows : List ProblemRow) (ranks : ℕ) (found : BestCut) → IsFound rows ranks found
    → IsCutCertified rows ranks found.cut.part.items found.cut.count found.greatest found.proof
found_certified rows ranks found is =
    let label : ℕ → ℕ = slice_index found.cut.part.items in
    let within : greatest_heat rows found.cut.count (slice_index found.cut.part.items) ≤ found.greatest =
    max_below-le found.cut.count found.greatest (part_heat rows label) is.cut.within in
    let above = is.least.lowest label (IsDivision-more rows found.cut.count ranks label is.few is.cut.parts.division) in
    let same = greatest_heat-more rows found.cut.count ranks label is.few is.cut.parts.division in
    record {
      few = is.few;
      size = is.cut.size;
      parts = is.cut.parts;
      greatest_is = omega (arith, within, above, same);
      cut = is.proven;
    }

-- so is a division with the greatest heat of a certified plan
pub division_certified :
    (problem : ProblemData) (part : List ℕ) (count greatest : ℕ) (proof : CutProof) → IsBestDivision problem part count greatest
    → IsCutProof problem.rows (rank_count problem.ranks) greatest proof
    → IsCutCertified problem.rows (rank_count problem.ranks) part count greatest proof
division_certified problem part count greatest proof division proven = record {
  few = division.few;
  size = division.size;
  parts = division.parts;
  greatest_is = division.greatest_is;
  cut = proven;
}

-- with the cheapest placing it is a certified plan
pub plan_certified :
    (problem : ProblemData) (plan : Plan) (cells : List ℕ)
    → IsCutCertified problem.rows (rank_count problem.ranks) plan.part (length plan.rank) plan.greatest plan.cut
    → AreRanks problem.ranks (length plan.rank) (plan_rank plan)
    → AreCosts problem.rows (plan_label plan) (length plan.rank) problem.ranks cells
    → plan.moved ≡ chosen_cost problem.ranks cells (length plan.rank) (plan_rank plan)
    → ArePrices problem.ranks (length plan.rank) (cell_at problem.ranks cells) (plan_rank plan) plan.dual
    → IsCertified problem plan
plan_certified problem plan cells division are costs moved prices =
    let k = length plan.rank in
    IsCertified-from problem plan are division
    (omega (
      arith,
      moved,
      moved-cells problem.rows k problem.ranks (plan_label plan) (plan_rank plan) cells division.parts.division.below are costs,
    ))
    (dual_from_prices problem.rows problem.ranks k (plan_label plan) (plan_rank plan) plan.dual
    (prices_over problem.ranks k (cell_at problem.ranks cells) (cost problem.rows (plan_label plan)) (plan_rank plan) plan.dual are
    costs.costs prices))

-- a certified division with the assignment of its parts is a certified plan
pub solved :
    (problem : ProblemData) (part : List ℕ) (count greatest : ℕ) (proof : CutProof) (costs : CostData) (assigned : Assigned)
    → IsCutCertified problem.rows (rank_count problem.ranks) part count greatest proof → costs.count ≡ count
    → costs.ranks ≡ problem.ranks → AreCosts problem.rows (slice_index part) count problem.ranks costs.cells
    → length assigned.ranks.items ≡ costs.count
    → AreRanks costs.ranks costs.count (slice_index assigned.ranks.items)
    → assigned.moved ≡ chosen_cost costs.ranks costs.cells costs.count (slice_index assigned.ranks.items)
    → ArePrices costs.ranks costs.count (cell_at costs.ranks costs.cells) (slice_index assigned.ranks.items) assigned.proof
    → IsCertified problem (record {
      part = part;
      rank = assigned.ranks.items;
      greatest = greatest;
      moved = assigned.moved;
      cut = proof;
      dual = assigned.proof;
    })
solved problem part count greatest proof costs assigned division count_is ranks_is cells size are moved prices =
    let k_is : length assigned.ranks.items ≡ count = size ∙ count_is in
    plan_certified problem
    (record {
      part = part;
      rank = assigned.ranks.items;
      greatest = greatest;
      moved = assigned.moved;
      cut = proof;
      dual = assigned.proof;
    })
    costs.cells (rw k_is division) (rw (size, ← ranks_is) are)
    (rw k_is cells) (rw (size, ← ranks_is) moved) (rw (size, ← ranks_is) prices)

-- the same with the proof of a plan that is certified
pub recertified :
    (problem : ProblemData) (plan : Plan) (part : List ℕ) (count : ℕ) (costs : CostData) (assigned : Assigned)
    → IsCertified problem plan → IsBestDivision problem part count plan.greatest → costs.count ≡ count
    → costs.ranks ≡ problem.ranks → AreCosts problem.rows (slice_index part) count problem.ranks costs.cells
    → length assigned.ranks.items ≡ costs.count
    → AreRanks costs.ranks costs.count (slice_index assigned.ranks.items)
    → assigned.moved ≡ chosen_cost costs.ranks costs.cells costs.count (slice_index assigned.ranks.items)
    → ArePrices costs.ranks costs.count (cell_at costs.ranks costs.cells) (slice_index assigned.ranks.items) assigned.proof
    → IsCertified problem (record {
      part = part;
      rank = assigned.ranks.items;
      greatest = plan.greatest;
      moved = assigned.moved;
      cut = plan.cut;
      dual = assigned.proof;
    })
recertified problem plan part count costs assigned is division count_is ranks_is cells size are moved prices =
    solved problem part count plan.greatest plan.cut costs assigned
    (division_certified problem part count plan.greatest plan.cut division is.cut) count_is ranks_is cells size are moved prices

-- a plan that moves no more than the cheapest placing of a cut
pub no_worse :
    (problem : ProblemData) (plan : Plan) (found : BestCut) (fewer : ℕ) → IsProblem problem
    → IsFound problem.rows (rank_count problem.ranks) found → IsCertified problem plan → plan.part ≡ found.cut.part.items
    → fewer ≤ plan.moved
    → (found : BestCut) × IsFound problem.rows (rank_count problem.ranks) found
    × ((rank : ℕ → ℕ) → IsPlacing problem.rows problem.ranks (slice_index found.cut.part.items) rank
    → fewer ≤ moved problem.rows (slice_index found.cut.part.items) rank)
no_worse problem plan found fewer valid is certified same most = (
  found,
  is,
  λ rank placing.
      (let least = (best problem plan valid certified).cheapest rank (rw same placing) in
      omega (arith, most, rw same at least)),
)
