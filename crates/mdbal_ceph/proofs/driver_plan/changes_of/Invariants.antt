use Rattle.std.proofs.Common.{◌≡◌, map, take}
use Rattle.mdbal_ceph.specs.DriverPlan.{planned_change}
use Rattle.mdbal_ceph.proofs.driver_plan.changes_of.Given as goal

abbrev pub invariant-loop-at : goal.invariant-loop-at
invariant-loop-at l = l.found.items ≡ map (planned_change l.directories l.rows l.inodes) (take l.at l.changes)
