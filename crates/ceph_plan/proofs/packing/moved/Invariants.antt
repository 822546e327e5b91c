use Rattle.std.proofs.Common.{◌≡◌, ◌≤◌, ◌*◌, ◌^◌}
use Rattle.ceph_plan.specs.Plans.{moved_inodes}
use Rattle.ceph_plan.proofs.packing.moved.Given as goal

abbrev pub invariant-loop-i : goal.invariant-loop-i
invariant-loop-i l = record {
  moved : l.moved ≡ moved_inodes l.rows l.part l.rank l.i;
  small : l.moved ≤ l.i * 2 ^ 32;
}
