use Rattle.std.proofs.Common.{◌≡◌, ◌++◌, slice_get}
use Rattle.ceph_report.specs.Text.{lines_below}
use Rattle.ceph_report.specs.Hours.{left_hour_at}
use Rattle.ceph_report.proofs.hours.push_left_hours.Given as goal

abbrev pub invariant-loop-at : goal.invariant-loop-at
invariant-loop-at l =
    l.text.items ≡ l.initial.text.items ++ lines_below (λ h. left_hour_at (slice_get l.names h)) l.at
