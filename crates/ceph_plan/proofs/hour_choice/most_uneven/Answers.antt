use Rattle.std.proofs.Common.{◌≡◌, ◌<◌, ◌+◌, ℕ, Bool, List, arith, inl, inr, length, subst, sym, ⊎_elim}
use Rattle.std.proofs.lemmas.Bool.{both_ways}
use Rattle.ceph_plan.specs.ChosenHours.{IsMoreUneven}
use Rattle.ceph_plan.proofs.Choosing.{IsNextBefore, next-all, next-new, next-none, next-old, not-before}
use Rattle.ceph_plan.proofs.hour_choice.most_uneven.Goals as goal
use Rattle.ceph_plan.proofs.hour_choice.most_uneven.Goals.{then-may_come+then-is_before, else-may_come}
use Rattle.ceph_plan.proofs.hour_choice.most_uneven.Goals.{else-may_come-via-then-may_come+else-is_before, else-may_come-via-else-may_come}

pub loop-h-init : goal.loop-h-init
loop-h-init c = next-none _ _ _ _ _ _ (sym c.requires.can.kept_size)

pub is_before-requires-clause-best : goal.is_before-requires-clause-best
is_before-requires-clause-best c = omega (arith, c.loop-h.invariant.inside, c.requires.can.kept_size)

pub loop-h-preserved : goal.loop-h-preserved
loop-h-preserved c =
    let keep : ℕ = c.args.of.now.wanted.keep in
    let kept : List Bool = c.args.of.now.kept.now in
    let bounds : List ℕ = c.args.of.now.bounds.now in
    let loads : List ℕ = c.args.greatest.now in
    let chosen : List ℕ = c.args.chosen.now in
    let h : ℕ = c.loop-h.h in
    let best : ℕ = c.loop-h.best in
    let size : length kept ≡ length c.args.of.now.hours.now = c.requires.can.kept_size in
    let inside : h < length kept = omega (arith, c.loop-h-test.true, size) in
    elim c.if-may_come.branch [
      | then-may_come+then-is_before w ↦
          subst (IsNextBefore keep kept bounds loads chosen (h + 1)) (sym w.best-is)
          (next-new keep kept bounds loads chosen h best inside c.loop-h.invariant (c.may_come.ensures.0 w.if-may_come.true)
          (⊎_elim (λ (first : best ≡ length c.args.of.now.hours.now). inl (omega (arith, first, size)))
          (λ (more : IsMoreUneven bounds loads h best). inr more)
          (w.is_before.ensures.0 w.if-is_before.true)))
      | else-may_come w ↦
          subst (IsNextBefore keep kept bounds loads chosen (h + 1)) (sym w.best-is)
          (next-old keep kept bounds loads chosen h best inside c.loop-h.invariant (λ may. elim w.else-may_come.branch [
            | else-may_come-via-then-may_come+else-is_before v ↦
                not-before bounds loads h best (length kept) c.loop-h.invariant.inside
                (λ before. both_ways v.is_before.result v.if-is_before.false (v.is_before.ensures.1
                (⊎_elim (λ (first : best ≡ length kept). inl (omega (arith, first, size))) (λ (more : IsMoreUneven bounds loads h best). inr more) before)))
            | else-may_come-via-else-may_come v ↦ absurd (both_ways c.may_come.result v.if-may_come.false (c.may_come.ensures.1 may))
          ]))
    ]

pub returns : goal.returns
returns c =
    next-all c.args.of.now.wanted.keep c.args.of.now.kept.now c.args.of.now.bounds.now c.args.greatest.now c.args.chosen.now c.loop-h.h c.loop-h.best
    (let all : c.loop-h.h ≡ length c.args.of.now.kept.now =
    omega (arith, c.loop-h-test.false, c.loop-h.auto.h-end, c.requires.can.kept_size) in all) c.loop-h.invariant
