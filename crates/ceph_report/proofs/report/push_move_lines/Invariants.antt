use Rattle.std.proofs.Common.{◌≡◌, ◌++◌, slice_get}
use Rattle.ceph_report.specs.Text.{lines_below}
use Rattle.ceph_report.specs.Report.{brought_line}
use Rattle.ceph_report.proofs.report.push_move_lines.Given as goal

abbrev pub invariant-loop-at : goal.invariant-loop-at
invariant-loop-at l =
    l.text.items ≡ l.initial.text.items ++ lines_below (λ i. brought_line l.directories (slice_get l.moves i)) l.at
