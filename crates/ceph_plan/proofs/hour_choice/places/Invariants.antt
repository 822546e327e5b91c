use Rattle.ceph_plan.proofs.Choosing.{AreMarkedBefore}
use Rattle.ceph_plan.proofs.hour_choice.places.Given as goal

abbrev pub invariant-loop-h : goal.invariant-loop-h
invariant-loop-h l = AreMarkedBefore l.kept l.h l.found.items
