use Rattle.std.proofs.Common.{◌≡◌, ◌++◌}
use Rattle.ceph_report.specs.Text.{lines_below}
use Rattle.ceph_report.specs.Json.{part_member}
use Rattle.ceph_report.proofs.json.push_parts.Given as goal

abbrev pub invariant-loop-at : goal.invariant-loop-at
invariant-loop-at l = l.text.items ≡ l.initial.text.items ++ lines_below (part_member l.ranks) l.at
