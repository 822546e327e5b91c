use Rattle.std.proofs.Common.{slice_index, arith}
use Rattle.ceph_plan.proofs.Bounds.{total_all}
use Rattle.ceph_plan.proofs.bound.total.Goals as goal

pub returns-clause-total : goal.returns-clause-total
returns-clause-total c = total_all c.args.ranks c.loop-number.number c.loop-number.total (slice_index c.args.numbers.now) (omega arith)
    c.loop-number.invariant.total
