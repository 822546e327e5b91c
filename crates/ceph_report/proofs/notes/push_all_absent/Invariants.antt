use Rattle.std.proofs.Common.{◌≡◌, ◌++◌}
use Rattle.ceph_report.specs.Text.{lines_below}
use Rattle.ceph_report.specs.Report.{absent_line}
use Rattle.ceph_report.proofs.notes.push_all_absent.Given as goal

abbrev pub invariant-loop-number : goal.invariant-loop-number
invariant-loop-number l = l.text.items ≡ l.initial.text.items ++ lines_below (absent_line l.facts) l.number
