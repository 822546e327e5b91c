use Rattle.std.proofs.Common.{◌≡◌, length}
use Rattle.ceph_plan.proofs.Making.{AreTaken}
use Rattle.ceph_plan.proofs.made.largest.Given as goal

abbrev pub invariant-loop : goal.invariant-loop
invariant-loop l = record {
  taken : AreTaken l.numbers l.left.items l.found.items;
  size : length l.found.items ≡ l.counter;
}
