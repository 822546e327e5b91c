use Rattle.std.proofs.Common.{◌+◌, ◌∙◌, sym, refl}
use Rattle.ceph_plan.proofs.Bounds.{IsLeastBelow, least_more, least_passed}
use Rattle.ceph_plan.proofs.bound.least.Goals as goal
use Rattle.ceph_plan.proofs.bound.least.Goals.{then-has_number, else-has_number}

pub loop-number-preserved : goal.loop-number-preserved
loop-number-preserved c =
    let so_far : IsLeastBelow c.args.ranks c.args.numbers.now c.loop-number.number c.loop-number.least =
    record { least = c.loop-number.invariant.least; one = c.loop-number.invariant.one } in
    let more : IsLeastBelow c.args.ranks c.args.numbers.now (c.loop-number.number + 1) c.if-has_number.least =
    elim c.if-has_number.branch [
      | then-has_number w ↦
          least_more c.args.ranks c.args.numbers.now c.loop-number.number c.loop-number.least c.if-has_number.least so_far
          (sym c.has_number.ensures ∙ w.if-has_number.true)
          (w.least-is ∙ (w.min-least.ensures ∙ (rw w.from.ensures refl)))
      | else-has_number w ↦
          least_passed c.args.ranks c.args.numbers.now c.loop-number.number c.loop-number.least c.if-has_number.least so_far
          (sym c.has_number.ensures ∙ w.if-has_number.false) w.least-is
    ] in
    record { least = more.least; one = more.one }
