use Rattle.std.proofs.Common.{◌≡◌, ◌∙◌, Bool, List, ap, inr, length, subst, sym}
use Rattle.mds_types.specs.Problem.{ProblemData}
use Rattle.mds_types.specs.declared.problem.ProblemRow.{ProblemRow}
use Rattle.ceph_plan.specs.HourPlans.{IsCountedHour}
use Rattle.ceph_plan.specs.MadeHours.{AreMadeOver, AreTaking}
use Rattle.ceph_plan.proofs.made.made_hours.Goals as goal

pub taking-requires-clause-free : goal.taking-requires-clause-free
taking-requires-clause-free c =
    c.requires
    ∙ sym (ap length (c.rows.ensures.value
    ∙ (ap (λ (problem : ProblemData). problem.rows) c.in-Ok.ensures.ok ∙ c.in_ok-to_vec.ensures.items_if_clones_equal (λ x y is. is))))

pub taking-requires-clause-size : goal.taking-requires-clause-size
taking-requires-clause-size c =
    c.is_hour.ensures.size c.if-not-is_hour.false
    ∙ sym (ap length (c.rows.ensures.value
    ∙ (ap (λ (problem : ProblemData). problem.rows) c.in-Ok.ensures.ok ∙ c.in_ok-to_vec.ensures.items_if_clones_equal (λ x y is. is))))

pub made_from-requires-clause-free : goal.made_from-requires-clause-free
made_from-requires-clause-free c =
    ap length c.deref.ensures.value ∙ (c.in_ok-taking.ensures.size ∙ ap length (c.rows.ensures.value ∙ sym c.rows-2.ensures.value))

pub made_from-requires-clause-hour : goal.made_from-requires-clause-hour
made_from-requires-clause-hour c =
    let same : length c.args.rows.now ≡ length c.rows-2.result.now =
    sym (ap length (c.rows-2.ensures.value
    ∙ (ap (λ (problem : ProblemData). problem.rows) c.in-Ok.ensures.ok ∙ c.in_ok-to_vec.ensures.items_if_clones_equal (λ x y is. is))))
    in
    subst (IsCountedHour c.args.now.now.heats.items c.args.now.now.pinned.items) same
    (record {
      held = c.is_hour.ensures.pinned c.if-not-is_hour.false;
      size = c.is_hour.ensures.size c.if-not-is_hour.false;
      total = c.is_hour.ensures.total c.if-not-is_hour.false;
    })

pub returns-clause-made : goal.returns-clause-made
returns-clause-made c =
    let taking : List Bool = c.in_ok-taking.taking.items in
    let over : AreMadeOver c.args.rows.now taking c.args.now.now c.args.count c.in_ok-made_from.field-0.items =
    subst (λ (rows : List ProblemRow). AreMadeOver rows taking c.args.now.now c.args.count c.in_ok-made_from.field-0.items)
    (c.rows-2.ensures.value ∙ (ap (λ (problem : ProblemData). problem.rows) c.in-Ok.ensures.ok ∙ c.in_ok-to_vec.ensures.items_if_clones_equal (λ x y is. is)))
    (subst (λ (those : List Bool). AreMadeOver c.rows-2.result.now those c.args.now.now c.args.count c.in_ok-made_from.field-0.items)
    c.deref.ensures.value c.in_ok-made_from.ensures) in
    let taking_are : AreTaking c.args.rows.now c.args.free.now c.args.now.now.heats.items taking =
    subst (λ (rows : List ProblemRow). AreTaking rows c.args.free.now c.args.now.now.heats.items taking)
    (c.rows.ensures.value ∙ (ap (λ (problem : ProblemData). problem.rows) c.in-Ok.ensures.ok ∙ c.in_ok-to_vec.ensures.items_if_clones_equal (λ x y is. is)))
    c.in_ok-taking.ensures in
    record { few = over.few; are = inr (taking, taking_are, over) }
