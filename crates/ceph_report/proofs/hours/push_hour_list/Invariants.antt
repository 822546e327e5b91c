use Rattle.std.proofs.Common.{◌≡◌, ◌++◌, slice_get}
use Rattle.ceph_report.specs.Text.{lines_below}
use Rattle.ceph_report.specs.Hours.{hour_member}
use Rattle.ceph_report.proofs.hours.push_hour_list.Given as goal

abbrev pub invariant-loop-at : goal.invariant-loop-at
invariant-loop-at l =
    l.text.items ≡ l.initial.text.items ++ lines_below (λ h. hour_member h (slice_get l.hours h)) l.at
