use Rattle.std.proofs.Common.{◌≡◌, slice_get}
use Rattle.mds_types.specs.Sums.{max_below}
use Rattle.ceph_report.specs.Hours.{ratio_of}
use Rattle.ceph_report.proofs.hours.worst_ratio.Given as goal

abbrev pub invariant-loop-at : goal.invariant-loop-at
invariant-loop-at l = l.greatest ≡ max_below l.at (λ h. ratio_of l.column l.ranks (slice_get l.hours h))
