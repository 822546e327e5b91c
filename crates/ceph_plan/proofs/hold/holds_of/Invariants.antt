use Rattle.std.proofs.Common.{◌≡◌, length}
use Rattle.ceph_plan.specs.Holds.{AreHolds}
use Rattle.ceph_plan.proofs.hold.holds_of.Given as goal

abbrev pub invariant-loop-i : goal.invariant-loop-i
invariant-loop-i l = record {
  size : length l.holds.items ≡ l.i;
  holds : AreHolds l.rows l.holds.items l.i;
}
