use Rattle.std.proofs.Common.{◌≡◌, ◌≤◌, ◌*◌, ◌^◌}
use Rattle.ceph_report.specs.Told.{heat_of_ranks}
use Rattle.ceph_report.proofs.facts.Facts.heat_now.Given as goal

abbrev pub invariant-loop-number : goal.invariant-loop-number
invariant-loop-number l = record {
  sum : l.all ≡ heat_of_ranks l.self l.number;
  small : l.all ≤ l.number * 2 ^ 64;
}
