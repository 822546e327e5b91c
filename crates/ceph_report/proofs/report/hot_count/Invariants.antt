use Rattle.std.proofs.Common.{◌≡◌, ◌≤◌, nat_lt}
use Rattle.mds_types.specs.Sums.{count_below}
use Rattle.ceph_snapshot.specs.Holding.{heat_at}
use Rattle.ceph_report.proofs.report.hot_count.Given as goal

abbrev pub invariant-loop-directory : goal.invariant-loop-directory
invariant-loop-directory l = record {
  count : l.count ≡ count_below l.directory-index (λ i. nat_lt 0 (heat_at l.directories i));
  few : l.count ≤ l.directory-index;
}
