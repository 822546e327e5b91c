use Rattle.std.proofs.Common.{◌≡◌, ◌≤◌, ◌++◌, ◌-◌, length}
use Rattle.ceph_plan.specs.Changes.{drops_from}
use Rattle.ceph_plan.proofs.changes.push_drops.Given as goal

-- the changes so far and those of the rows that are left
abbrev pub invariant-loop-i : goal.invariant-loop-i
invariant-loop-i l = record {
  inside : l.i ≤ length l.rows;
  changes : l.changes.items ++ drops_from l.rows l.holds (length l.rows - l.i) l.i ≡ l.fn.changes.items ++ drops_from l.rows l.holds (length l.rows) 0;
}

abbrev pub decreases-loop-i : goal.decreases-loop-i
decreases-loop-i l = length l.rows - l.i
