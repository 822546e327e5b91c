use Rattle.std.proofs.Common.{◌≡◌, take}
use Rattle.ceph_plan.specs.Plans.{capped_rows}
use Rattle.ceph_plan.proofs.plan.capped.Given as goal

abbrev pub invariant-loop-row : goal.invariant-loop-row
invariant-loop-row l = l.found.items ≡ capped_rows l.cap (take l.row-index l.rows)
