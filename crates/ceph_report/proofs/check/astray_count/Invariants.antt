use Rattle.std.proofs.Common.{◌≡◌, ◌≤◌}
use Rattle.mds_types.specs.Sums.{count_below}
use Rattle.ceph_report.specs.Check.{astray_at}
use Rattle.ceph_report.proofs.check.astray_count.Given as goal

abbrev pub invariant-loop-directory : goal.invariant-loop-directory
invariant-loop-directory l = record {
  count : l.count ≡ count_below l.directory-index (astray_at l.directories);
  few : l.count ≤ l.directory-index;
}
