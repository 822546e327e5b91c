-- Plans for several hours, and what they come to.
use Rattle.std.proofs.Common.{◌≡◌, ◌∙◌, ◌<◌, ◌+◌, ◌==◌, ℕ, List, ap, arith, cond, inr, length, slice_index, subst, sym, true}
use Rattle.mds_types.specs.declared.problem.ProblemRow.{ProblemRow}
use Rattle.mds_types.specs.Problem.{now_at}
use Rattle.mds_types.specs.RankSet.{has_rank}
use Rattle.mds_types.proofs.SumsLemmas.{sum_below-same}
use Rattle.ceph_plan.specs.declared.choice.Wanted.{Wanted}
use Rattle.ceph_plan.specs.declared.for_hours.HoursProposal.{HoursProposal}
use Rattle.ceph_plan.specs.declared.hours.Hour.{Hour}
use Rattle.ceph_plan.specs.declared.plan_error.PlanError.{PlanError}
use Rattle.ceph_plan.specs.declared.proposal.OwnPins.{OwnPins}
use Rattle.ceph_plan.specs.declared.proposal.Proposal.{Proposal}
use Rattle.ceph_plan.specs.declared.shares.Shares.{Shares}
use Rattle.ceph_plan.specs.HourPlans.{AreCountable, IsCountedRefusal, IsHoursProposal}
use Rattle.ceph_plan.specs.Packing.{AreHours, AreLoads, heat_in, load_in, packed_rank, pinned_at}
use Rattle.ceph_plan.specs.Proposals.{IsProposal}
use Rattle.ceph_plan.specs.Refusals.{IsProposalRefusal}
use Rattle.ceph_plan.specs.Shares.{AreShares}

-- where rows go to the same ranks the loads are the same
pub loads-same : (hours : List Hour) (n m : ℕ) (to other : ℕ → ℕ) (loads : List ℕ) → n ≡ m → ((i : ℕ) → i < m → to i ≡ other i)
    → AreLoads hours n to loads → AreLoads hours m other loads
loads-same hours n m to other loads size same are = record {
  size = are.size;
  are = λ h r l small.
      are.are h r l small
      ∙ (ap (λ (k : ℕ). load_in hours k to h r) size
      ∙ ap (λ (sum : ℕ). pinned_at hours h r + sum)
      (sum_below-same m (λ i. cond (to i == r) (heat_in hours h i) 0) (λ i. cond (other i == r) (heat_in hours h i) 0)
      (λ i li. ap (λ (x : ℕ). cond (x == r) (heat_in hours h i) 0) (same i li))));
}

module _ (ranks : ℕ) (hours : List Hour) (rows : List ProblemRow) (weights : List ℕ) (wanted : Wanted) (own : List OwnPins) (shares : Shares)
    (are : AreShares ranks rows hours weights shares) where
  -- the rows of a proposal are as many
  pub proposal-size : (proposal : Proposal) → IsProposal ranks shares.hours.items shares.rows.items wanted own proposal
      → length proposal.plan.part.items ≡ length rows
  proposal-size proposal is = is.placed.size ∙ are.rows_size

  pub proposal-hours : (proposal : Proposal) → IsProposal ranks shares.hours.items shares.rows.items wanted own proposal → AreHours hours (length rows)
      → AreHours hours (length proposal.plan.part.items)
  proposal-hours proposal is all = subst (AreHours hours) (sym (proposal-size proposal is)) all

  pub proposal-below : (proposal : Proposal) → IsProposal ranks shares.hours.items shares.rows.items wanted own proposal
      → (i : ℕ) → i < length proposal.plan.part.items → slice_index proposal.plan.part.items i < length proposal.plan.packing.rank.items
  proposal-below proposal is i l = omega (arith, is.placed.division.below i (omega (arith, l, is.placed.size)), is.placed.packing.size)

  pub hours-proposed : (found : HoursProposal) → AreCountable hours weights (length rows)
      → IsProposal ranks shares.hours.items shares.rows.items wanted own found.proposal
      → found.bounds.items ≡ shares.bounds.items
      → AreLoads hours (length found.proposal.plan.part.items)
      (packed_rank found.proposal.plan.packing.rank.items found.proposal.plan.part.items) found.loads.items
      → AreLoads hours (length rows) (now_at rows) found.before.items → IsHoursProposal ranks hours rows weights wanted own found
  hours-proposed found countable is bounds loads before = record {
    countable = countable;
    shares = shares;
    shares_are = are;
    proposal = is;
    bounds_are = bounds;
    bounds_size = ap length bounds ∙ are.bounds_size;
    loads = subst (λ (n : ℕ). AreLoads hours n (packed_rank found.proposal.plan.packing.rank.items found.proposal.plan.part.items)
        found.loads.items) (proposal-size found.proposal is) loads;
    before = before;
  }

  pub shares-refused : (error : PlanError) → has_rank ranks 0 ≡ true → AreCountable hours weights (length rows)
      → IsProposalRefusal ranks shares.hours.items shares.rows.items wanted own error → IsCountedRefusal ranks hours rows weights wanted own error
  shares-refused error zero countable is = record { zero = zero; countable = countable; why = inr (shares, are, is) }
