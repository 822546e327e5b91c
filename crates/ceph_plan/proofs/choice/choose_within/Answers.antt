use Rattle.std.proofs.Common.{◌≡◌, ◌≢◌, ◌<◌, ◌≤◌, ◌==◌, ◌∙◌, ℕ, Bool, false, true, List, length, ap, arith, refl, subst, sym}
use Rattle.std.proofs.lemmas.Bool.{eqb-false}
use Rattle.mds_types.specs.Problem.{ProblemData}
use Rattle.mds_types.specs.RankSet.{has_rank}
use Rattle.mds_types.specs.declared.problem.ProblemRow.{ProblemRow}
use Rattle.ceph_plan.specs.declared.hours.Hour.{Hour}
use Rattle.ceph_plan.specs.declared.plan.PackedDivision.{PackedDivision}
use Rattle.ceph_plan.specs.Balance.{allowed}
use Rattle.ceph_plan.specs.Choice.{AreTried, even_at}
use Rattle.ceph_plan.specs.Packing.{ArePinned, HaveHeats}
use Rattle.ceph_plan.specs.Refusals.{IsPlannable}
use Rattle.ceph_plan.proofs.Taken.{are-cool, divisions-tried, plan-taken}
use Rattle.ceph_plan.proofs.choice.choose_within.Goals as goal

positive : (n : ℕ) → (n == 0) ≡ false → 0 < n
positive n is = let some : n ≢ 0 = eqb-false n 0 is in omega arith

plannable : (ranks : ℕ) (hours : List Hour) (rows those : List ProblemRow) (root : ℕ) (has none : Bool) → root ≡ 0 → has ≡ has_rank ranks root → has ≡ true
    → none ≡ (length rows == 0) → none ≡ false → ArePinned hours → those ≡ rows → IsPlannable ranks hours those
plannable ranks hours rows those root has none zero has_is there none_is some held same = record {
  zero = ap (has_rank ranks) (sym zero) ∙ (sym has_is ∙ there);
  held = held;
  some = subst (λ (found : List ProblemRow). 0 < length found) (sym same) (positive (length rows) (sym none_is ∙ some));
}

pub invariant_of-of-clause-able : goal.invariant_of-of-clause-able
invariant_of-of-clause-able c =
    plannable c.args.ranks c.args.hours.now c.args.rows.now c.rows-rows.result.now c.default.result c.has.result c.is_empty.result
    (sym c.default.ensures.1 ∙ c.default.ensures.2)
    c.has.ensures c.if-not-has.false c.is_empty.ensures c.if-is_empty.false (c.if-not-have_pinned.ensures.0 refl)
    (c.rows-rows.ensures.value
    ∙ (ap (λ (problem : ProblemData). problem.rows) c.in-Ok.ensures.ok ∙ c.in_ok-to_vec.ensures.items_if_clones_equal (λ x y is. is)))

pub invariant_of-of-clause-heats : goal.invariant_of-of-clause-heats
invariant_of-of-clause-heats c =
    subst (λ (those : List ProblemRow). HaveHeats those c.args.hours.now)
    (sym (c.rows-rows.ensures.value
    ∙ (ap (λ (problem : ProblemData). problem.rows) c.in-Ok.ensures.ok ∙ c.in_ok-to_vec.ensures.items_if_clones_equal (λ x y is. is))))
    c.requires.heats

pub taken-plan-requires : goal.taken-plan-requires
taken-plan-requires c = are-cool c.args.ranks c.args.hours.now c.rows-rows.result.now c.args.wanted.parts c.in_ok-divisions.divisions.items
    c.in_ok-divisions.ensures.tried

pub returns-clause-chosen : goal.returns-clause-chosen
returns-clause-chosen c =
    let ranks : ℕ = c.args.ranks in
    let hours : List Hour = c.args.hours.now in
    let rows : List ProblemRow = c.args.rows.now in
    let divisions : List PackedDivision = c.in_ok-divisions.divisions.items in
    let tried : AreTried ranks hours rows c.args.wanted.parts divisions =
    subst (λ (those : List ProblemRow). AreTried ranks hours those c.args.wanted.parts divisions)
    (c.rows-rows.ensures.value
    ∙ (ap (λ (problem : ProblemData). problem.rows) c.in-Ok.ensures.ok ∙ c.in_ok-to_vec.ensures.items_if_clones_equal (λ x y is. is)))
    c.in_ok-divisions.ensures.tried in
    record {
      choice = record {
        plannable =
            plannable ranks hours rows rows c.default.result c.has.result c.is_empty.result (sym c.default.ensures.1 ∙ c.default.ensures.2)
            c.has.ensures c.if-not-has.false c.is_empty.ensures c.if-is_empty.false (c.if-not-have_pinned.ensures.0 refl) refl;
        plan = plan-taken ranks c.args.wanted.keep hours rows divisions c.taken-plan.result
            (divisions-tried ranks hours rows c.args.wanted.parts divisions tried) c.taken-plan.ensures;
        divisions = divisions;
        tried = tried;
        taken = c.taken-plan.ensures;
      };
      limit_is = record {
        coolest = c.coolest.result;
        has = subst (λ (those : List PackedDivision). c.coolest.result < length those) c.deref-2.ensures.value c.coolest.ensures.inside;
        least = subst (λ (those : List PackedDivision). (j : ℕ) → j < length those → even_at those c.coolest.result ≤ even_at those j)
            c.deref-2.ensures.value c.coolest.ensures.least;
        is = c.limit_of-limit.ensures ∙ ap (λ (those : List PackedDivision). allowed c.args.wanted.keep (even_at those c.coolest.result)) c.deref.ensures.value;
      };
    }
