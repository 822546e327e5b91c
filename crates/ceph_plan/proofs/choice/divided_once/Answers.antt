use Rattle.std.proofs.Common.{◌∙◌, ◌++◌, ◌∷◌, [], ℕ, List, ap, subst}
use Rattle.ceph_plan.specs.declared.plan.PackedDivision.{PackedDivision}
use Rattle.ceph_plan.specs.Plans.{IsDivided, no_cap}
use Rattle.ceph_plan.proofs.choice.divided_once.Goals as goal

pub returns-clause-divided : goal.returns-clause-divided
returns-clause-divided c =
    let divided : PackedDivision = c.in_ok-divided.divided in
    record {
      divided = divided;
      only = c.in_ok-push.ensures.items ∙ ap (λ (those : List PackedDivision). those ++ divided ∷ []) c.new-divisions.ensures.items;
      of = subst (λ (parts : ℕ). IsDivided c.args.of.now.ranks c.args.of.now.hours.now c.args.of.now.rows.now parts no_cap divided)
          c.from-parts.ensures c.in_ok-divided.ensures.divided;
    }
