use Rattle.std.proofs.Common.{◌≡◌, ◌<◌, ℕ, length, min, slice_index, sum_by, take}
use Rattle.ceph_snapshot.specs.Holding.{most_heat}
use Rattle.ceph_snapshot.specs.Sightings.{torn_heat}
use Rattle.ceph_snapshot.proofs.snapshot.spread_heats.Given as goal

abbrev pub invariant-loop-seen : goal.invariant-loop-seen
invariant-loop-seen l = record {
  size : length l.spread.items ≡ 64;
  heats : (rank : ℕ) → rank < 64 → slice_index l.spread.items rank ≡ min most_heat (sum_by (torn_heat l.nodes l.samples rank) (take l.seen-index l.sightings));
}
