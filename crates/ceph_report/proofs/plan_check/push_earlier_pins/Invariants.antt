use Rattle.std.proofs.Common.{◌≡◌, ◌++◌, take}
use Rattle.std.specs.List.{flat_map}
use Rattle.ceph_report.specs.PlanCheck.{earlier_difference}
use Rattle.ceph_report.proofs.plan_check.push_earlier_pins.Given as goal

-- the lines so far
abbrev pub invariant-loop-pin : goal.invariant-loop-pin
invariant-loop-pin l = l.text.items ≡ l.fn.text.items ++ flat_map (earlier_difference l.directories l.ranks l.plan) (take l.pin-index l.pin-items)
