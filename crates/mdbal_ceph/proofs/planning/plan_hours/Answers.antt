use Rattle.std.proofs.Common.{◌≡◌, ◌∙◌, ℕ, List, ap, arith, inl, inr, length, refl, subst, ⊎_elim}
use Rattle.std.proofs.lemmas.Result.{err_from_is_err_and}
use Rattle.std.proofs.lemmas.Option.{slice_get_read}
use Rattle.mds_types.specs.declared.problem.ProblemRow.{ProblemRow}
use Rattle.ceph_plan.specs.ChosenHours.{AreChosenHours, IsChoiceRefusal}
use Rattle.ceph_plan.specs.MadeHours.{AreMadeHours}
use Rattle.ceph_plan.specs.declared.hours.Hour.{Hour}
use Rattle.ceph_plan.specs.declared.plan_error.PlanError.{PlanError}
use Rattle.mdbal_ceph.specs.Hours.{made_most}
use Rattle.mdbal_ceph.specs.declared.planning.PlanAsked.{PlanAsked}
use Rattle.mdbal_ceph.proofs.Refusals.{hours_memory, refused_hours}
use Rattle.mdbal_ceph.proofs.planning.plan_hours.Goals as goal

pub returns-clause-plan : goal.returns-clause-plan
returns-clause-plan c =
    let asked : PlanAsked = c.args.asked.now in
    let rows : List ProblemRow = c.args.rows.now in
    let given : List Hour = c.args.given.now in
    let chosen : List ℕ = c.in_ok-chosen.chosen.items in
    let now : Hour = c.index-given-0.result in
    let made = c.in_ok-made.ensures.made in
    let count : c.len.result ≡ length chosen = omega (arith, c.len.ensures, c.in_ok-chosen.chosen.ok) in
    let most : c.made_most-most.result ≡ made_most asked (length chosen) = c.made_most-most.ensures ∙ ap (made_most asked) count in
    record {
      chosen = chosen;
      chosen_are = subst (λ (most : ℕ). AreChosenHours asked.ranks given rows asked.wanted c.args.own.now most chosen) c.from-most.ensures
          c.in_ok-chosen.ensures.chosen;
      free = made.0;
      free_are = made.1;
      now = now;
      first = slice_get_read given (length given) 0 now refl c.requires.some c.index-given-0.is;
      made = c.in_ok-made.made.items;
      made_are = subst (λ (most : ℕ). AreMadeHours rows made.0 now most c.in_ok-made.made.items) most made.2;
      planned = c.in_ok-hours.hours.items;
      weights = c.in_ok-hours.weights.items;
      planned_are = rw (c.deref.ensures.value, c.deref-2.ensures.value) at c.in_ok-hours.ensures;
      found = c.in_ok-found.found;
      found_is = rw (c.deref-3.ensures.value, c.deref-4.ensures.value) at c.in_ok-found.ensures.proposal;
      proposal_is = refl;
      told = rw (c.deref-5.ensures.value, c.deref-6.ensures.value) at c.in_ok-told.ensures;
      left_are = rw c.deref-7.ensures.value at c.in_ok-left.ensures;
    }

pub returns-in_err-chosen-clause-failed : goal.returns-in_err-chosen-clause-failed
returns-in_err-chosen-clause-failed c =
    let was : PlanError = c.in_err-chosen.field-0.0 in
    let e = err_from_is_err_and c.from_residual.result c.from_residual.ensures.1 in
    rw (e.1, e.2)
    (refused_hours c.args.asked.now c.args.rows.now c.args.own.now c.args.given.now was
    (inl (subst (λ (most : ℕ). IsChoiceRefusal c.args.asked.now.ranks c.args.given.now c.args.rows.now c.args.asked.now.wanted
    c.args.own.now most was) c.from-most.ensures c.in_err-chosen.ensures.refused)))

pub returns-in_err-made-clause-failed : goal.returns-in_err-made-clause-failed
returns-in_err-made-clause-failed c =
    let was : PlanError = c.in_err-made.field-0.0 in
    let e = err_from_is_err_and c.from_residual-in_err-made.result c.from_residual-in_err-made.ensures.1 in
    rw (e.1, e.2)
    (⊎_elim (λ is. hours_memory c.args.asked.now c.args.rows.now c.args.own.now c.args.given.now was is)
    (λ why. refused_hours c.args.asked.now c.args.rows.now c.args.own.now c.args.given.now was
    (inr (inl (c.index-given-0.result, (0, (c.requires.some, c.index-given-0.is)), why))))
    c.in_err-made.ensures.failed)

pub returns-in_err-found-clause-failed : goal.returns-in_err-found-clause-failed
returns-in_err-found-clause-failed c =
    let e = err_from_is_err_and c.from_residual-in_err-found.result c.from_residual-in_err-found.ensures.1 in
    rw (e.1, e.2)
    (refused_hours c.args.asked.now c.args.rows.now c.args.own.now c.args.given.now _
    (inr (inr (c.deref-3.result.now, c.deref-4.result.now, c.in_err-found.ensures.refused))))
