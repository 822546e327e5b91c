use Rattle.std.proofs.Common.{ℕ, Bool, List, arith, refl}
use Rattle.ceph_plan.proofs.Choosing.{marked-all, marked-more, marked-none, marked-same}
use Rattle.ceph_plan.proofs.hour_choice.places.Goals as goal
use Rattle.ceph_plan.proofs.hour_choice.places.Goals.{then-kept+in_ok-push, else-kept}

pub loop-h-init : goal.loop-h-init
loop-h-init c = marked-none c.args.kept.now c.new-found.result.items c.new-found.ensures.items

pub loop-h-preserved : goal.loop-h-preserved
loop-h-preserved c =
    let kept : List Bool = c.args.kept.now in
    let found : List ℕ = c.loop-h.found.items in
    let h : ℕ = c.loop-h.h in
    elim c.if-kept.branch [
      | then-kept+in_ok-push w ↦ marked-more kept h found c.if-kept.found.items (rw w.found-is w.in_ok-push.ensures.items) w.if-kept.true c.loop-h.invariant
      | else-kept w ↦ marked-same kept h found c.if-kept.found.items (rw w.found-is refl) w.if-kept.false c.loop-h.invariant
    ]

pub returns : goal.returns
returns c = marked-all c.args.kept.now c.loop-h.h c.loop-h.found.items (omega (arith, c.loop-h-test.false, c.loop-h.auto.h-end)) c.loop-h.invariant
