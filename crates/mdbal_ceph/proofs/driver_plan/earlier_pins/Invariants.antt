use Rattle.std.proofs.Common.{◌≡◌}
use Rattle.mdbal_ceph.specs.DriverPlan.{earlier_below}
use Rattle.mdbal_ceph.proofs.driver_plan.earlier_pins.Given as goal

abbrev pub invariant-loop-at : goal.invariant-loop-at
invariant-loop-at l = l.found.items ≡ earlier_below l.directories l.rows l.at
