use Rattle.std.proofs.Common.{◌≡◌, ◌++◌, slice_get}
use Rattle.ceph_report.specs.Text.{lines_below}
use Rattle.ceph_report.specs.Hours.{hour_line_at}
use Rattle.ceph_report.proofs.hours.push_hours.Given as goal

abbrev pub invariant-loop-at : goal.invariant-loop-at
invariant-loop-at l =
    l.text.items ≡ l.initial.text.items ++ lines_below (λ h. hour_line_at l.ranks (slice_get l.hours h)) l.at
