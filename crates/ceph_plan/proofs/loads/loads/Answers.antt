use Rattle.std.proofs.Common.{arith, slice_index, length}
use Rattle.ceph_plan.proofs.HourSums.{loads-room}
use Rattle.ceph_plan.proofs.loads.loads.Goals as goal

pub add-requires-clause-room : goal.add-requires-clause-room
add-requires-clause-room c = λ h l.
    loads-room c.args.hours.now (length c.args.rank.now) c.loop-i.i (slice_index c.args.rank.now) c.loop-i.loads.items h c.from.result
    c.requires c.loop-i.invariant
    c.loop-i-test.true l (omega (arith, c.from.ensures, c.number.ensures.small))
