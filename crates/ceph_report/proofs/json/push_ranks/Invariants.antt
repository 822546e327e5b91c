use Rattle.std.proofs.Common.{◌≡◌, ◌++◌, ◌≤◌}
use Rattle.ceph_report.specs.Text.{lines_below}
use Rattle.mds_types.specs.Sums.{count_below}
use Rattle.ceph_report.specs.Json.{rank_member}
use Rattle.ceph_report.specs.Told.{is_told}
use Rattle.ceph_report.proofs.json.push_ranks.Given as goal

abbrev pub invariant-loop-number : goal.invariant-loop-number
invariant-loop-number l = record {
  text : l.text.items ≡ l.initial.text.items ++ lines_below (rank_member l.facts) l.number;
  count : l.count ≡ count_below l.number (is_told l.facts);
  few : l.count ≤ l.number;
}
