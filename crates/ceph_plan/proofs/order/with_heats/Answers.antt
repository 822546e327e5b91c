use Rattle.std.proofs.Common.{refl}
use Rattle.ceph_plan.proofs.Orders.{more-heats}
use Rattle.ceph_plan.proofs.order.with_heats.Goals as goal

pub loop-part-preserved : goal.loop-part-preserved
loop-part-preserved c =
    more-heats c.args.heats.now c.loop-part.found.items c.push.new.self.items _ c.loop-part.part c.loop-part.invariant c.in_ok-push.ensures.items refl refl
