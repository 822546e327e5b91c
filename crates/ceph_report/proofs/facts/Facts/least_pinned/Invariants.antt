use Rattle.std.proofs.Common.{◌≡◌}
use Rattle.ceph_report.specs.Told.{least_pinned}
use Rattle.ceph_report.proofs.facts.Facts.least_pinned.Given as goal

abbrev pub invariant-loop-number : goal.invariant-loop-number
invariant-loop-number l = l.least ≡ least_pinned l.self l.number
