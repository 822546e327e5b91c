use Rattle.std.proofs.Common.{◌≡◌, ◌≤◌, ◌<◌, ◌+◌, ℕ, length, slice_index}
use Rattle.ceph_folding.specs.Folding.{IsCappedSum, of_children}
use Rattle.ceph_snapshot.specs.Holding.{heat_at, parent_at}
use Rattle.ceph_folding.proofs.coldest.heats_below.Given as goal

abbrev pub invariant-loop-at : goal.invariant-loop-at
invariant-loop-at l = record {
  size : length l.heats.items ≡ length l.directories;
  some : 0 < length l.directories → 0 < l.at;
  sums : (i : ℕ) → i < length l.directories → IsCappedSum (slice_index l.heats.items i)
      (heat_at l.directories i + of_children l.directories (slice_index l.heats.items) l.at i);
  rise : (i : ℕ) → 0 < i → l.at ≤ i → i < length l.directories → slice_index l.heats.items i ≤ slice_index l.heats.items (parent_at l.directories i);
}
