-- Plans for several hours, and what they come to in each of them.
use Rattle.std.specs.Prelude.{◌≡◌, ◌<◌, ◌≤◌, ◌⊎◌, ◌^◌, ℕ, List, false, length, slice_index, true}
use Rattle.mds_types.specs.declared.problem.ProblemRow.{ProblemRow}
use Rattle.mds_types.specs.Problem.{now_at}
use Rattle.mds_types.specs.RankSet.{has_rank}
use Rattle.mds_types.specs.Sums.{sum_below}
use Rattle.ceph_plan.specs.declared.choice.Wanted.{Wanted}
use Rattle.ceph_plan.specs.declared.for_hours.HoursProposal.{HoursProposal}
use Rattle.ceph_plan.specs.declared.for_hours.TheConstants.{HOUR_LIMIT}
use Rattle.ceph_plan.specs.declared.hours.Hour.{Hour}
use Rattle.ceph_plan.specs.declared.hours_error.HoursError.{HoursError}
use Rattle.ceph_plan.specs.declared.hours_error.HoursError.TheVariants as hours_cause
use Rattle.ceph_plan.specs.declared.plan_error.PlanError.{PlanError}
use Rattle.ceph_plan.specs.declared.plan_error.PlanError.TheVariants as cause
use Rattle.ceph_plan.specs.declared.proposal.OwnPins.{OwnPins}
use Rattle.ceph_plan.specs.declared.shares.Shares.{Shares}
use Rattle.ceph_plan.specs.Packing.{AreHours, AreLoads, IsPinnedHeat, packed_rank}
use Rattle.ceph_plan.specs.Proposals.{IsProposal}
use Rattle.ceph_plan.specs.Refusals.{IsProposalRefusal}
use Rattle.ceph_plan.specs.Shares.{AreShares}

-- an hour of n rows that can be counted
pub record IsCountedHour (heats pinned : List ℕ) (n : ℕ) : Type 0 where
  pub held : IsPinnedHeat pinned
  pub size : length heats ≡ n
  pub total : sum_below n (slice_index heats) ≤ 2 ^ 56

-- a weight for each of so many hours, in percent
pub record AreWeights (weights : List ℕ) (hours : ℕ) : Type 0 where
  pub size : length weights ≡ hours
  pub each : (h : ℕ) → h < length weights → (0 < slice_index weights h) × (slice_index weights h ≤ 100)

-- hours of n rows that can be planned for: from 1 to 32, each with a weight, and all of their heat can be counted
pub record AreCountable (hours : List Hour) (weights : List ℕ) (n : ℕ) : Type 0 where
  pub some : 0 < length hours
  pub few : length hours ≤ HOUR_LIMIT
  pub weights_are : AreWeights weights (length hours)
  pub hours_are : AreHours hours n

-- what is wrong first with hours of n rows
abbrev pub IsHoursFault : List Hour → List ℕ → ℕ → HoursError → Type 0
IsHoursFault hours weights n hours_cause.NoHour = length hours ≡ 0
IsHoursFault hours weights n hours_cause.TooMany = HOUR_LIMIT < length hours
IsHoursFault hours weights n hours_cause.BadWeight =
    (0 < length hours) × (length hours ≤ HOUR_LIMIT) × ¬ (AreWeights weights (length hours))
IsHoursFault hours weights n hours_cause.NotCounted =
    (0 < length hours) × (length hours ≤ HOUR_LIMIT) × AreWeights weights (length hours) × ¬ (AreHours hours n)

-- why hours that can be planned for aren't: out of memory, or the directories can't be planned, by what they count in
-- all hours
pub record IsCountedRefusal (ranks : ℕ) (hours : List Hour) (rows : List ProblemRow) (weights : List ℕ)
    (wanted : Wanted) (own : List OwnPins) (error : PlanError) : Type 0 where
  pub zero : has_rank ranks 0 ≡ true
  pub countable : AreCountable hours weights (length rows)
  pub why : (error ≡ cause.Memory) ⊎ ((shares : Shares) × AreShares ranks rows hours weights shares
      × IsProposalRefusal ranks shares.hours.items shares.rows.items wanted own error)

-- why there is no plan for hours: without rank 0 there is none; the hours can't be planned for; or they can, and the
-- directories can't
abbrev pub IsHoursRefusal : ℕ → List Hour → List ProblemRow → List ℕ → Wanted → List OwnPins → PlanError → Type 0
IsHoursRefusal ranks hours rows weights wanted own error =
    ((error ≡ cause.NoRankZero) × (has_rank ranks 0 ≡ false))
    ⊎ (((fault : HoursError) × (error ≡ cause.Hours fault) × (has_rank ranks 0 ≡ true)
    × IsHoursFault hours weights (length rows) fault)
    ⊎ IsCountedRefusal ranks hours rows weights wanted own error)

-- a plan for these hours: each counts by its weight as much of what no assignment gets below in it. The loads of all
-- ranks are told in heat, with the plan and as things are
pub record IsHoursProposal (ranks : ℕ) (hours : List Hour) (rows : List ProblemRow) (weights : List ℕ)
    (wanted : Wanted) (own : List OwnPins) (found : HoursProposal) : Type 0 where
  pub countable : AreCountable hours weights (length rows)
  pub shares : Shares
  pub shares_are : AreShares ranks rows hours weights shares
  pub proposal : IsProposal ranks shares.hours.items shares.rows.items wanted own found.proposal
  pub bounds_are : found.bounds.items ≡ shares.bounds.items
  pub bounds_size : length found.bounds.items ≡ length hours
  pub loads : AreLoads hours (length rows)
      (packed_rank found.proposal.plan.packing.rank.items found.proposal.plan.part.items) found.loads.items
  pub before : AreLoads hours (length rows) (now_at rows) found.before.items
