use Rattle.ceph_plan.specs.Placements.{AreRegions}
use Rattle.ceph_plan.proofs.placement.regions_of.Given as goal

abbrev pub invariant-loop-i : goal.invariant-loop-i
invariant-loop-i l = AreRegions l.rows l.goals l.i l.part.items l.rank.items
