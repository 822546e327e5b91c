use Rattle.std.proofs.Common.{◌≡◌, ◌≤◌, ◌++◌, length}
use Rattle.ceph_plan.specs.Holds.{pins_below}
use Rattle.ceph_plan.proofs.gathered.gather.Given as goal

-- the pins so far and those of the rows that are left
abbrev pub invariant-loop-i : goal.invariant-loop-i
invariant-loop-i l = record {
  inside : l.i ≤ length l.rows;
  pins : l.pins.items ++ pins_below l.rows l.holds l.i ≡ pins_below l.rows l.holds (length l.rows);
}

abbrev pub decreases-loop-i : goal.decreases-loop-i
decreases-loop-i l = l.i
