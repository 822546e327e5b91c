use Rattle.ceph_plan.proofs.Picking.{IsBestSoFar}
use Rattle.ceph_plan.proofs.pick.cheapest.Given as goal

abbrev pub invariant-loop-at : goal.invariant-loop-at
invariant-loop-at l = IsBestSoFar l.limit l.wanted l.candidates l.at l.best
