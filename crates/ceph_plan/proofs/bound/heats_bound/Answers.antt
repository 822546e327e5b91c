use Rattle.std.proofs.Common.{arith, length, slice_index}
use Rattle.ceph_plan.proofs.Bounds.{max-sum}
use Rattle.ceph_plan.proofs.bound.heats_bound.Goals as goal

pub returns-clause-lower : goal.returns-clause-lower
returns-clause-lower c = λ to usable.
    c.bound_of.ensures.lower (length c.args.heats.now) (slice_index c.args.heats.now) (omega (arith, c.sum_of.ensures))
    (omega (arith, c.hottest_of.ensures)) to usable

pub returns-clause-three : goal.returns-clause-three
returns-clause-three c = λ few.
    c.bound_of.ensures.three (length c.args.heats.now) (slice_index c.args.heats.now) (omega (arith, c.sum_of.ensures, few))
    (omega (arith, c.hottest_of.ensures, few, max-sum (length c.args.heats.now) (slice_index c.args.heats.now)))
