use Rattle.std.proofs.Common.{◌≡◌, ◌++◌}
use Rattle.ceph_report.specs.Text.{lines_below}
use Rattle.ceph_report.specs.Report.{over_line}
use Rattle.ceph_report.proofs.notes.push_all_over.Given as goal

abbrev pub invariant-loop-at : goal.invariant-loop-at
invariant-loop-at l = l.text.items ≡ l.initial.text.items ++ lines_below (over_line l.facts l.all) l.at
