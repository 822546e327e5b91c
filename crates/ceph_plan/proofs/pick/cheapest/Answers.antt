use Rattle.std.proofs.Common.{◌+◌, ℕ, List, subst, sym}
use Rattle.std.proofs.lemmas.Bool.{both_ways}
use Rattle.ceph_plan.specs.declared.candidate.Candidate.{Candidate}
use Rattle.ceph_plan.specs.declared.choice.Wanted.{Wanted}
use Rattle.ceph_plan.proofs.Picking.{IsBestSoFar, best-new, best-old, not-before}
use Rattle.ceph_plan.proofs.pick.cheapest.Goals as goal
use Rattle.ceph_plan.proofs.pick.cheapest.Goals.{then-is_fit+then-is_before, else-is_fit}
use Rattle.ceph_plan.proofs.pick.cheapest.Goals.{else-is_fit-via-then-is_fit+else-is_before, else-is_fit-via-else-is_fit}

pub loop-at-preserved : goal.loop-at-preserved
loop-at-preserved c =
    let limit : ℕ = c.args.limit in
    let wanted : Wanted = c.args.wanted in
    let candidates : List Candidate = c.args.candidates.now in
    let at : ℕ = c.loop-at.at in
    let best : ℕ = c.loop-at.best in
    elim c.if-is_fit.branch [
      | then-is_fit+then-is_before w ↦
          let fit = c.is_fit.ensures.0 w.if-is_fit.true in
          subst (IsBestSoFar limit wanted candidates (at + 1)) (sym w.best-is)
          (best-new limit wanted candidates at best c.loop-at-test.true c.loop-at.invariant fit.0 fit.1 (w.is_before.ensures.0 w.if-is_before.true))
      | else-is_fit w ↦
          subst (IsBestSoFar limit wanted candidates (at + 1)) (sym w.best-is)
          (best-old limit wanted candidates at best c.loop-at-test.true c.loop-at.invariant (λ cool few. elim w.else-is_fit.branch [
            | else-is_fit-via-then-is_fit+else-is_before v ↦
                not-before candidates at best c.loop-at.invariant.size
                (λ before. both_ways v.is_before.result v.if-is_before.false (v.is_before.ensures.1 before))
            | else-is_fit-via-else-is_fit v ↦ absurd (both_ways c.is_fit.result v.if-is_fit.false (c.is_fit.ensures.1 (cool, few)))
          ]))
    ]
