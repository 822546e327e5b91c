use Rattle.std.proofs.Common.{ℕ, None, slice_index, slice_index_or}
use Rattle.ceph_report.specs.Amounts.{AreAmounts}
use Rattle.ceph_report.specs.Roots.{root_count}
use Rattle.ceph_report.proofs.roots.root_counts.Given as goal

abbrev pub invariant-loop-at : goal.invariant-loop-at
invariant-loop-at l = AreAmounts l.counts.items (λ (r : ℕ). root_count l.directories (slice_index l.ranks) (λ i. slice_index_or l.own i None) r l.at)
