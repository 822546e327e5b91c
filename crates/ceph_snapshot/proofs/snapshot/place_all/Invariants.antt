use Rattle.std.proofs.Common.{◌≡◌, ◌<◌, ◌≤◌, ℕ, length, slice_get}
use Rattle.std.specs.Option.{option_map}
use Rattle.ceph_snapshot.specs.Authority.{is_torn_above, placed_node, rank_above}
use Rattle.ceph_snapshot.proofs.snapshot.place_all.Given as goal

-- those so far are placed, and the others are as they were
abbrev pub invariant-loop-at : goal.invariant-loop-at
invariant-loop-at l = record {
  size : length l.nodes.items ≡ length l.fn.nodes.items;
  placed : (i : ℕ) → i < l.at → slice_get l.nodes.items i
      ≡ option_map (placed_node (rank_above l.fn.nodes.items l.nodes.items i) (is_torn_above l.fn.nodes.items l.nodes.items i))
      (slice_get l.fn.nodes.items i);
  rest : (i : ℕ) → l.at ≤ i → slice_get l.nodes.items i ≡ slice_get l.fn.nodes.items i;
}
