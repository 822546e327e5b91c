use Rattle.ceph_plan.specs.Placements.{AreGoals, AreAsWanted}
use Rattle.ceph_plan.proofs.placement.usable_goals.Given as goal

abbrev pub invariant-loop-i : goal.invariant-loop-i
invariant-loop-i l = record {
  goals : AreGoals l.ranks l.i l.goals.items;
  kept : AreAsWanted l.ranks l.wanted l.i l.goals.items;
}
