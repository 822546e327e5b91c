use Rattle.std.proofs.Common.{◌≡◌, ◌++◌}
use Rattle.ceph_report.specs.Text.{lines_below}
use Rattle.ceph_report.specs.Report.{capped_line}
use Rattle.ceph_report.proofs.notes.push_all_capped.Given as goal

abbrev pub invariant-loop-at : goal.invariant-loop-at
invariant-loop-at l = l.text.items ≡ l.initial.text.items ++ lines_below (capped_line l.directories) l.at
