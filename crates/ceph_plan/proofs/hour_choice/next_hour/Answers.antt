use Rattle.std.proofs.Common.{◌≡◌, ◌∙◌, ◌⊎◌, ◌<◌, ◌+◌, ◌*◌, ℕ, Bool, List, ap, inr, length, slice_index, subst, sym}
use Rattle.std.proofs.lemmas.Result.{err_from_is_err_and}
use Rattle.mds_types.specs.declared.problem.ProblemRow.{ProblemRow}
use Rattle.ceph_plan.specs.declared.choice.Wanted.{Wanted}
use Rattle.ceph_plan.specs.declared.for_hours.HoursProposal.{HoursProposal}
use Rattle.ceph_plan.specs.declared.hours.Hour.{Hour}
use Rattle.ceph_plan.specs.declared.plan.Planned.{Planned}
use Rattle.ceph_plan.specs.declared.plan_error.PlanError.{PlanError}
use Rattle.ceph_plan.specs.declared.plan_error.PlanError.TheVariants.{Memory}
use Rattle.ceph_plan.specs.declared.proposal.OwnPins.{OwnPins}
use Rattle.ceph_plan.specs.ChosenHours.{AreThose, IsNextToCome, IsSomeRefusal, judged}
use Rattle.ceph_plan.specs.HourPlans.{IsHoursProposal, IsHoursRefusal}
use Rattle.ceph_plan.specs.Packing.{AreHours, AreLoads, greatest_of, packed_rank}
use Rattle.ceph_plan.proofs.Choosing.{plan-below, plan-for, plan-judged, plan-size}
use Rattle.ceph_plan.proofs.hour_choice.next_hour.Goals as goal

planned : (ranks : ℕ) (rows : List ProblemRow) (wanted asked : Wanted) (own : List OwnPins) (those hours : List Hour)
    (weights given : List ℕ) (plan : HoursProposal)
    → hours ≡ those → given ≡ weights → asked ≡ wanted → IsHoursProposal ranks hours rows given asked own plan
    → IsHoursProposal ranks those rows weights wanted own plan
planned ranks rows wanted asked own those hours weights given plan hours_is weights_is wanted_is is =
    subst (λ (hs : List Hour). IsHoursProposal ranks hs rows weights wanted own plan) hours_is
    (subst (λ (ws : List ℕ). IsHoursProposal ranks hours rows ws wanted own plan) weights_is
    (subst (λ (w : Wanted). IsHoursProposal ranks hours rows given w own plan) wanted_is is))

pub planned_loads-requires-clause-hours : goal.planned_loads-requires-clause-hours
planned_loads-requires-clause-hours c =
    let is = planned c.args.of.now.ranks c.args.of.now.rows.now (judged c.args.of.now.wanted) c.judged-wanted.result c.args.of.now.own.now
    c.in_ok-those.those.items c.deref.result.now c.in_ok-weights.weights.items c.deref-2.result.now c.in_ok-found.found
    c.deref.ensures.value c.deref-2.ensures.value c.judged-wanted.ensures c.in_ok-found.ensures.proposal in
    subst (AreHours c.args.of.now.hours.now)
    (sym (ap length c.deref-3.ensures.value ∙ plan-size c.args.of.now.ranks c.args.of.now.rows.now (judged c.args.of.now.wanted)
    c.args.of.now.own.now c.in_ok-weights.weights.items c.in_ok-those.those.items c.in_ok-found.found is))
    c.requires.can.hours_are

pub planned_loads-requires-clause-below : goal.planned_loads-requires-clause-below
planned_loads-requires-clause-below c =
    let plan : Planned = c.in_ok-found.found.proposal.plan in
    let is = planned c.args.of.now.ranks c.args.of.now.rows.now (judged c.args.of.now.wanted) c.judged-wanted.result c.args.of.now.own.now
    c.in_ok-those.those.items c.deref.result.now c.in_ok-weights.weights.items c.deref-2.result.now c.in_ok-found.found
    c.deref.ensures.value c.deref-2.ensures.value c.judged-wanted.ensures c.in_ok-found.ensures.proposal in
    subst (λ (xs : List ℕ). (i : ℕ) → i < length xs → slice_index xs i < length c.deref-4.result.now) (sym c.deref-3.ensures.value)
    (subst (λ (rs : List ℕ). (i : ℕ) → i < length plan.part.items → slice_index plan.part.items i < length rs) (sym c.deref-4.ensures.value)
    (plan-below c.args.of.now.ranks c.args.of.now.rows.now (judged c.args.of.now.wanted) c.args.of.now.own.now c.in_ok-weights.weights.items
    c.in_ok-those.those.items c.in_ok-found.found is))

pub returns-clause-next : goal.returns-clause-next
returns-clause-next c =
    let ranks : ℕ = c.args.of.now.ranks in
    let hours : List Hour = c.args.of.now.hours.now in
    let rows : List ProblemRow = c.args.of.now.rows.now in
    let wanted : Wanted = c.args.of.now.wanted in
    let own : List OwnPins = c.args.of.now.own.now in
    let kept : List Bool = c.args.of.now.kept.now in
    let bounds : List ℕ = c.args.of.now.bounds.now in
    let chosen : List ℕ = c.args.chosen.now in
    let those : List Hour = c.in_ok-those.those.items in
    let weights : List ℕ = c.in_ok-weights.weights.items in
    let found : HoursProposal = c.in_ok-found.found in
    let plan : Planned = found.proposal.plan in
    let table : List ℕ = c.in_ok-loads.loads.items in
    let greatest : List ℕ = c.in_ok-greatest.greatest.items in
    let is : IsHoursProposal ranks those rows weights (judged wanted) own found =
    planned ranks rows (judged wanted) c.judged-wanted.result own those c.deref.result.now weights c.deref-2.result.now found
    c.deref.ensures.value c.deref-2.ensures.value c.judged-wanted.ensures c.in_ok-found.ensures.proposal in
    let loads : AreLoads hours (length plan.part.items) (packed_rank plan.packing.rank.items plan.part.items) table =
    subst (λ (xs : List ℕ). AreLoads hours (length xs) (packed_rank plan.packing.rank.items xs) table) c.deref-3.ensures.value
    (subst (λ (rs : List ℕ). AreLoads hours (length c.deref-3.result.now) (packed_rank rs c.deref-3.result.now) table)
    c.deref-4.ensures.value c.in_ok-loads.ensures) in
    record {
      plan = found;
      is = plan-for ranks hours rows wanted own chosen weights those found c.in_ok-those.ensures
          (c.in_ok-weights.ensures.items_if_clones_equal (λ y is. is)) is;
      kept = kept;
      bounds = bounds;
      loads = greatest;
      judged = plan-judged ranks hours rows own bounds kept found table greatest c.requires.can
          (plan-size ranks rows (judged wanted) own weights those found is) loads
          (λ h l. c.in_ok-greatest.ensures.greatest h l ∙ ap (λ (xs : List ℕ). greatest_of ranks (λ r. slice_index xs (h * 64 + r))) c.deref-5.ensures.value);
      next_is = subst (λ (xs : List ℕ). IsNextToCome wanted.keep kept bounds xs chosen c.most_uneven.result) c.deref-6.ensures.value c.most_uneven.ensures;
    }

refused : (ranks : ℕ) (rows : List ProblemRow) (wanted asked : Wanted) (own : List OwnPins) (hours those given : List Hour)
    (chosen weights : List ℕ) (error : PlanError) → AreThose hours chosen those
    → given ≡ those → asked ≡ judged wanted → IsHoursRefusal ranks given rows weights asked own error
    → (error ≡ Memory) ⊎ IsSomeRefusal ranks hours rows wanted own error
refused ranks rows wanted asked own hours those given chosen weights error are given_is asked_is why = inr (record {
  chosen = chosen;
  those = those;
  are = are;
  weights = weights;
  why = subst (λ (hs : List Hour). IsHoursRefusal ranks hs rows weights (judged wanted) own error) given_is
      (subst (λ (w : Wanted). IsHoursRefusal ranks given rows weights w own error) asked_is why);
})

pub returns-in_err-found-clause-refused : goal.returns-in_err-found-clause-refused
returns-in_err-found-clause-refused c =
    let e = err_from_is_err_and c.from_residual-in_err-found.result c.from_residual-in_err-found.ensures.1 in
    rw (e.1, e.2)
    (refused c.args.of.now.ranks c.args.of.now.rows.now c.args.of.now.wanted c.judged-wanted.result c.args.of.now.own.now
    c.args.of.now.hours.now c.in_ok-those.those.items c.deref.result.now c.args.chosen.now
    c.deref-2.result.now _ c.in_ok-those.ensures c.deref.ensures.value c.judged-wanted.ensures c.in_err-found.ensures.refused)
