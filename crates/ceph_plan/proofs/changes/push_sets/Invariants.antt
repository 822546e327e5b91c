use Rattle.std.proofs.Common.{◌≡◌, ◌≤◌, ◌++◌, length}
use Rattle.ceph_plan.specs.Changes.{sets_below}
use Rattle.ceph_plan.proofs.changes.push_sets.Given as goal

-- the changes so far and those of the rows that are left
abbrev pub invariant-loop-i : goal.invariant-loop-i
invariant-loop-i l = record {
  inside : l.i ≤ length l.rows;
  changes : l.changes.items ++ sets_below l.rows l.holds l.i ≡ l.fn.changes.items ++ sets_below l.rows l.holds (length l.rows);
}

abbrev pub decreases-loop-i : goal.decreases-loop-i
decreases-loop-i l = l.i
