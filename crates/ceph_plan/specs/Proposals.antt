-- A plan with the changes of pins that do it.
use Rattle.std.specs.Prelude.{◌≡◌, ◌≤◌, ◌↔◌, ℕ, IsTrue, List, Some, length, slice_get}
use Rattle.mds_types.specs.declared.problem.ProblemRow.{ProblemRow}
use Rattle.ceph_plan.specs.declared.hours.Hour.{Hour}
use Rattle.ceph_plan.specs.Changes.{AreChangesFor}
use Rattle.ceph_plan.specs.declared.candidate.Candidate.{Candidate}
use Rattle.ceph_plan.specs.declared.choice.Wanted.{Wanted}
use Rattle.ceph_plan.specs.declared.plan.Planned.{Planned}
use Rattle.ceph_plan.specs.declared.proposal.OwnPins.{OwnPins}
use Rattle.ceph_plan.specs.declared.proposal.Proposal.{Proposal}
use Rattle.ceph_plan.specs.Asked.{ArePinRows}
use Rattle.ceph_plan.specs.Candidates.{AreCandidates, AreLeft, IsPicked}
use Rattle.ceph_plan.specs.Choice.{IsLimit, IsPlanChoice}
use Rattle.ceph_plan.specs.Placements.{IsPlacement}

-- a plan keeps within what is wanted: no more inodes move, and each row that is to be left is where it is
pub record KeepsWithin (rows : List ProblemRow) (wanted : Wanted) (own : List OwnPins) (plan : Planned) : Type 0 where
  pub inodes : plan.moved ≤ wanted.most_inodes
  pub left : AreLeft rows own plan.part.items plan.packing.rank.items (length rows)

-- the plan is picked of several: the present placement, others that begin from it, and the one that is chosen of all
-- numbers of parts, or of the number that is asked for. What is asked of the pins is what was planned, wherever rows
-- without a pin are, or with these staying where they are; and the changes do it
pub record IsProposal (ranks : ℕ) (hours : List Hour) (rows : List ProblemRow) (wanted : Wanted) (own : List OwnPins)
    (found : Proposal) : Type 0 where
  pub divided : Planned
  pub chosen : IsPlanChoice ranks hours rows wanted divided
  pub limit : ℕ
  pub limit_is : IsLimit wanted.keep chosen.divisions limit
  pub candidates : List Candidate
  pub are : AreCandidates ranks hours rows own wanted.rests divided candidates
  pub k : ℕ
  pub taken : Candidate
  pub there : slice_get candidates k ≡ Some taken
  pub picked : IsPicked limit wanted candidates k
  pub plan : found.plan ≡ taken.plan
  pub placed : IsPlacement ranks hours rows found.plan
  pub targets : ArePinRows rows found.plan.part.items found.plan.packing.rank.items own (length rows) wanted.rests
      found.rows.items
  pub changes : AreChangesFor found.rows.items found.changes.items
  pub within : IsTrue found.is_within ↔ KeepsWithin rows wanted own found.plan
