use Rattle.std.proofs.Common.{◌≡◌, ◌<◌, ℕ, length, min, slice_index}
use Rattle.ceph_snapshot.specs.Holding.{most_heat}
use Rattle.ceph_pins.specs.Children.{heat_from}
use Rattle.ceph_pins.proofs.Scatters.{from}
use Rattle.ceph_pins.proofs.children.heats_below.Given as goal

abbrev pub invariant-loop-at : goal.invariant-loop-at
invariant-loop-at l = record {
  size : length l.below.items ≡ length l.directories;
  sums : (i : ℕ) → i < length l.directories → slice_index l.below.items i ≡ min most_heat (from l.directories (heat_from l.heats l.below.items) l.at i);
}
