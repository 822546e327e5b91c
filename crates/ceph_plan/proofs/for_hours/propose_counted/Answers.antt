use Rattle.std.proofs.Common.{◌≡◌, ◌∙◌, ◌<◌, ℕ, List, ap, length, refl, slice_index, subst, sym}
use Rattle.std.proofs.lemmas.Result.{err_from_is_err_and}
use Rattle.mds_types.specs.declared.problem.ProblemRow.{ProblemRow}
use Rattle.ceph_plan.specs.declared.choice.Wanted.{Wanted}
use Rattle.ceph_plan.specs.declared.hours.Hour.{Hour}
use Rattle.ceph_plan.specs.declared.plan.Planned.{Planned}
use Rattle.ceph_plan.specs.declared.plan_error.PlanError.{PlanError}
use Rattle.ceph_plan.specs.declared.proposal.OwnPins.{OwnPins}
use Rattle.ceph_plan.specs.declared.proposal.Proposal.{Proposal}
use Rattle.ceph_plan.specs.declared.shares.Shares.{Shares}
use Rattle.ceph_plan.specs.Packing.{AreHours, AreLoads, HaveHeats, packed_rank}
use Rattle.ceph_plan.specs.Proposals.{IsProposal}
use Rattle.ceph_plan.specs.Refusals.{IsProposalRefusal}
use Rattle.ceph_plan.proofs.HourPlanned.{hours-proposed, proposal-below, proposal-hours, shares-refused}
use Rattle.ceph_plan.proofs.for_hours.propose_counted.Goals as goal

pub propose-requires-clause-heats : goal.propose-requires-clause-heats
propose-requires-clause-heats c =
    subst (λ (xs : List ProblemRow). HaveHeats xs c.deref-2.result.now) (sym c.deref.ensures.value)
    (subst (HaveHeats c.in_ok-shares.shares.rows.items) (sym c.deref-2.ensures.value) c.in_ok-shares.ensures.have)

pub propose-requires-clause-own : goal.propose-requires-clause-own
propose-requires-clause-own c =
    c.requires.own ∙ (sym c.in_ok-shares.ensures.rows_size ∙ sym (ap length c.deref.ensures.value))

proposed : (ranks : ℕ) (wanted : Wanted) (own : List OwnPins) (shares : Shares) (proposal : Proposal) (rows : List ProblemRow)
    (hours : List Hour) → rows ≡ shares.rows.items
    → hours ≡ shares.hours.items → IsProposal ranks hours rows wanted own proposal → IsProposal ranks shares.hours.items shares.rows.items wanted own proposal
proposed ranks wanted own shares proposal rows hours rows_is hours_is is =
    subst (λ (xs : List ProblemRow). IsProposal ranks shares.hours.items xs wanted own proposal) rows_is
    (subst (λ (hs : List Hour). IsProposal ranks hs rows wanted own proposal) hours_is is)

pub planned_loads-requires-clause-hours : goal.planned_loads-requires-clause-hours
planned_loads-requires-clause-hours c =
    let is = proposed c.args.ranks c.args.wanted c.args.own.now c.in_ok-shares.shares c.in_ok-proposal.proposal c.deref.result.now
    c.deref-2.result.now c.deref.ensures.value c.deref-2.ensures.value
    c.in_ok-proposal.ensures.proposal in
    subst (λ (xs : List ℕ). AreHours c.args.hours.now (length xs)) (sym c.deref-3.ensures.value)
    (proposal-hours c.args.ranks c.args.hours.now c.args.rows.now c.args.weights.now c.args.wanted c.args.own.now c.in_ok-shares.shares
    c.in_ok-shares.ensures c.in_ok-proposal.proposal is
    c.requires.countable.hours_are)

pub planned_loads-requires-clause-below : goal.planned_loads-requires-clause-below
planned_loads-requires-clause-below c =
    let is = proposed c.args.ranks c.args.wanted c.args.own.now c.in_ok-shares.shares c.in_ok-proposal.proposal c.deref.result.now
    c.deref-2.result.now c.deref.ensures.value c.deref-2.ensures.value
    c.in_ok-proposal.ensures.proposal in
    subst (λ (xs : List ℕ). (i : ℕ) → i < length xs → slice_index xs i < length c.deref-4.result.now) (sym c.deref-3.ensures.value)
    (subst (λ (rs : List ℕ). (i : ℕ) → i < length c.in_ok-proposal.proposal.plan.part.items
    → slice_index c.in_ok-proposal.proposal.plan.part.items i < length rs) (sym c.deref-4.ensures.value)
    (proposal-below c.args.ranks c.args.hours.now c.args.rows.now c.args.weights.now c.args.wanted c.args.own.now c.in_ok-shares.shares
    c.in_ok-shares.ensures c.in_ok-proposal.proposal is))

pub returns-clause-proposal : goal.returns-clause-proposal
returns-clause-proposal c =
    let hours : List Hour = c.args.hours.now in
    let plan : Planned = c.in_ok-proposal.proposal.plan in
    let is = proposed c.args.ranks c.args.wanted c.args.own.now c.in_ok-shares.shares c.in_ok-proposal.proposal c.deref.result.now
    c.deref-2.result.now c.deref.ensures.value c.deref-2.ensures.value
    c.in_ok-proposal.ensures.proposal in
    let loads : AreLoads hours (length plan.part.items) (packed_rank plan.packing.rank.items plan.part.items) c.in_ok-loads.loads.items =
    subst (λ (xs : List ℕ). AreLoads hours (length xs) (packed_rank plan.packing.rank.items xs) c.in_ok-loads.loads.items) c.deref-3.ensures.value
    (subst (λ (rs : List ℕ). AreLoads hours (length c.deref-3.result.now) (packed_rank rs c.deref-3.result.now) c.in_ok-loads.loads.items)
    c.deref-4.ensures.value c.in_ok-loads.ensures) in
    hours-proposed c.args.ranks hours c.args.rows.now c.args.weights.now c.args.wanted c.args.own.now c.in_ok-shares.shares
    c.in_ok-shares.ensures _ c.requires.countable is refl loads
    c.in_ok-before.ensures

refused : (ranks : ℕ) (wanted : Wanted) (own : List OwnPins) (shares : Shares) (error : PlanError) (rows : List ProblemRow)
    (hours : List Hour) → rows ≡ shares.rows.items
    → hours ≡ shares.hours.items → IsProposalRefusal ranks hours rows wanted own error
    → IsProposalRefusal ranks shares.hours.items shares.rows.items wanted own error
refused ranks wanted own shares error rows hours rows_is hours_is is =
    subst (λ (xs : List ProblemRow). IsProposalRefusal ranks shares.hours.items xs wanted own error) rows_is
    (subst (λ (hs : List Hour). IsProposalRefusal ranks hs rows wanted own error) hours_is is)

pub returns-in_err-proposal-clause-refused : goal.returns-in_err-proposal-clause-refused
returns-in_err-proposal-clause-refused c =
    let e = err_from_is_err_and c.from_residual-in_err-proposal.result c.from_residual-in_err-proposal.ensures.1 in
    rw (e.1, e.2)
    (shares-refused c.args.ranks c.args.hours.now c.args.rows.now c.args.weights.now c.args.wanted c.args.own.now c.in_ok-shares.shares
    c.in_ok-shares.ensures _ c.requires.zero
    c.requires.countable
    (refused c.args.ranks c.args.wanted c.args.own.now c.in_ok-shares.shares _ c.deref.result.now c.deref-2.result.now c.deref.ensures.value
    c.deref-2.ensures.value
    c.in_err-proposal.ensures.refused))
