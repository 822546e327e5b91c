use Rattle.std.proofs.Common.{◌≡◌, ◌++◌, ◌≤◌}
use Rattle.ceph_report.specs.Text.{lines_below}
use Rattle.mds_types.specs.Sums.{count_below}
use Rattle.ceph_report.specs.Left.{left_at}
use Rattle.ceph_report.specs.Staying.{is_left}
use Rattle.ceph_report.proofs.staying_text.push_left.Given as goal

abbrev pub invariant-loop-at : goal.invariant-loop-at
invariant-loop-at l = record {
  text : l.text.items ≡ l.initial.text.items ++ lines_below (left_at l.form l.directories l.stays) l.at;
  count : l.count ≡ count_below l.at (is_left l.stays);
  few : l.count ≤ l.at;
}
