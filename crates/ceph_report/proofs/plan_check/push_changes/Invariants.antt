use Rattle.std.proofs.Common.{◌≡◌, ◌++◌, take}
use Rattle.std.specs.List.{flat_map}
use Rattle.ceph_report.specs.PlanCheck.{change_difference}
use Rattle.ceph_report.proofs.plan_check.push_changes.Given as goal

-- the lines so far
abbrev pub invariant-loop-change : goal.invariant-loop-change
invariant-loop-change l = l.text.items ≡ l.fn.text.items ++ flat_map (change_difference l.directories l.ranks) (take l.change-index l.changes)
