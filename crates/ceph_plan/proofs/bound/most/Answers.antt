use Rattle.std.proofs.Common.{slice_index, arith}
use Rattle.ceph_plan.proofs.Bounds.{greatest_all}
use Rattle.ceph_plan.proofs.bound.most.Goals as goal

pub returns : goal.returns
returns c = greatest_all c.args.ranks c.loop-number.number c.loop-number.most (slice_index c.args.numbers.now) (omega arith) c.loop-number.invariant
