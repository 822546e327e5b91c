use Rattle.std.proofs.Common.{◌≡◌, ◌<◌, ℕ, length, min, slice_index}
use Rattle.ceph_snapshot.specs.Holding.{most_heat}
use Rattle.ceph_report.specs.Staying.{followers}
use Rattle.ceph_report.proofs.staying.followers.Given as goal

abbrev pub invariant-loop-at : goal.invariant-loop-at
invariant-loop-at l = record {
  size : length l.counts.items ≡ length l.leaders;
  counts : (i : ℕ) → i < length l.leaders → slice_index l.counts.items i ≡ min most_heat (followers l.leaders l.at i);
}
