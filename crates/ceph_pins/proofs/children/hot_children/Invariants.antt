use Rattle.std.proofs.Common.{◌≡◌, ◌<◌, ℕ, length, min, slice_index}
use Rattle.ceph_snapshot.specs.Holding.{most_heat}
use Rattle.ceph_pins.specs.Children.{hot_below}
use Rattle.ceph_pins.proofs.children.hot_children.Given as goal

abbrev pub invariant-loop-at : goal.invariant-loop-at
invariant-loop-at l = record {
  size : length l.hot.items ≡ length l.directories;
  counts : (i : ℕ) → i < length l.directories → slice_index l.hot.items i ≡ min most_heat (hot_below l.directories l.heats l.below l.at i);
}
