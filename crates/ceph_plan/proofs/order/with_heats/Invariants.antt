use Rattle.ceph_plan.proofs.Orders.{AreHeats}
use Rattle.ceph_plan.proofs.order.with_heats.Given as goal

abbrev pub invariant-loop-part : goal.invariant-loop-part
invariant-loop-part l = AreHeats l.heats l.found.items l.part
