-- Why there is no plan.
use Rattle.std.specs.Prelude.{◌≡◌, ◌<◌, ◌⊎◌, ⊤, ℕ, List, None, length, true, false}
use Rattle.mds_types.specs.declared.problem.ProblemRow.{ProblemRow}
use Rattle.mds_types.specs.Problem.{IsFirstFault}
use Rattle.mds_types.specs.RankSet.{has_rank}
use Rattle.ceph_plan.specs.declared.hours.Hour.{Hour}
use Rattle.ceph_plan.specs.Asked.{own_at}
use Rattle.ceph_plan.specs.Packing.{ArePinned}
use Rattle.ceph_plan.specs.declared.choice.PartCount.{PartCount}
use Rattle.ceph_plan.specs.declared.choice.PartCount.TheVariants.{AtMost, Auto}
use Rattle.ceph_plan.specs.declared.choice.Wanted.{Wanted}
use Rattle.ceph_plan.specs.declared.plan_error.PlanError.{PlanError}
use Rattle.ceph_plan.specs.declared.plan_error.PlanError.TheVariants as cause
use Rattle.ceph_plan.specs.declared.proposal.OwnPins.{OwnPins}

-- rank 0 is among the ranks, there is a row, and the pinned heat can be counted
pub record IsPlannable (ranks : ℕ) (hours : List Hour) (rows : List ProblemRow) : Type 0 where
  pub zero : has_rank ranks 0 ≡ true
  pub held : ArePinned hours
  pub some : 0 < length rows

-- why there is no plan of this many parts: none are asked for, or out of memory
abbrev pub IsPartsRefusal : ℕ → PlanError → Type 0
IsPartsRefusal parts cause.Memory = ⊤
IsPartsRefusal parts cause.NoDirectory = ⊥
IsPartsRefusal parts cause.NoRankZero = ⊥
IsPartsRefusal parts cause.PinnedTooHot = ⊥
IsPartsRefusal parts cause.PinnedRoot = ⊥
IsPartsRefusal parts (cause.Problem fault) = parts ≡ 0
IsPartsRefusal parts (cause.Hours fault) = ⊥

-- why rows aren't divided: no parts are asked for, or out of memory
abbrev pub IsCountRefusal : PartCount → PlanError → Type 0
IsCountRefusal (Auto most) error = error ≡ cause.Memory
IsCountRefusal (AtMost parts) error = IsPartsRefusal parts error

-- no parts are asked for
abbrev pub AsksNoParts : PartCount → Type 0
AsksNoParts (Auto most) = ⊥
AsksNoParts (AtMost parts) = parts ≡ 0

-- why rows aren't planned: the first thing that is wrong, or out of memory where it is none of the first three
abbrev pub IsPlanRefusal : ℕ → List Hour → List ProblemRow → Wanted → PlanError → Type 0
IsPlanRefusal ranks hours rows wanted cause.Memory = IsPlannable ranks hours rows
IsPlanRefusal ranks hours rows wanted cause.NoDirectory = (has_rank ranks 0 ≡ true) × (length rows ≡ 0)
IsPlanRefusal ranks hours rows wanted cause.NoRankZero = has_rank ranks 0 ≡ false
IsPlanRefusal ranks hours rows wanted cause.PinnedTooHot =
    (has_rank ranks 0 ≡ true) × (0 < length rows) × (ArePinned hours → ⊥)
IsPlanRefusal ranks hours rows wanted cause.PinnedRoot = ⊥
IsPlanRefusal ranks hours rows wanted (cause.Problem fault) =
    IsPlannable ranks hours rows × (IsFirstFault rows ranks fault ⊎ AsksNoParts wanted.parts)
IsPlanRefusal ranks hours rows wanted (cause.Hours fault) = ⊥

-- why there is no proposal: the root has a pin that is to stay, or the rows aren't planned
abbrev pub IsProposalRefusal : ℕ → List Hour → List ProblemRow → Wanted → List OwnPins → PlanError → Type 0
IsProposalRefusal ranks hours rows wanted own error =
    ((error ≡ cause.PinnedRoot) × ((own_at own 0).foreign ≡ None → ⊥)) ⊎ IsPlanRefusal ranks hours rows wanted error
