use Rattle.std.proofs.Common.{◌≡◌, ◌≤◌, is_some}
use Rattle.mds_types.specs.Sums.{count_below}
use Rattle.ceph_snapshot.specs.Holding.{earlier_at}
use Rattle.ceph_report.proofs.check.set_count.Given as goal

abbrev pub invariant-loop-directory : goal.invariant-loop-directory
invariant-loop-directory l = record {
  count : l.count ≡ count_below l.directory-index (λ i. is_some (earlier_at l.directories i));
  few : l.count ≤ l.directory-index;
}
