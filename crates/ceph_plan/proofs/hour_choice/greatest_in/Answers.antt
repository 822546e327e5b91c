use Rattle.std.proofs.Common.{◌+◌, ◌*◌, slice_index, arith}
use Rattle.ceph_plan.proofs.Bounds.{greatest_all}
use Rattle.ceph_plan.proofs.hour_choice.greatest_in.Goals as goal

pub returns : goal.returns
returns c = greatest_all c.args.ranks c.loop-number.number c.loop-number.most (λ r. slice_index c.args.loads.now (c.args.hour * 64 + r))
    (omega arith) c.loop-number.invariant
