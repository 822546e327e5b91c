use Rattle.std.proofs.Common.{◌≡◌, ◌++◌, slice_get}
use Rattle.ceph_report.specs.Text.{lines_below}
use Rattle.ceph_report.specs.Json.{one_member}
use Rattle.ceph_report.proofs.json.push_changes.Given as goal

-- the changes so far
abbrev pub invariant-loop-at : goal.invariant-loop-at
invariant-loop-at l =
    l.text.items ≡ l.initial.text.items ++ lines_below (λ i. one_member l.form l.facts i (slice_get l.changes i)) l.at
