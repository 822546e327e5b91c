use Rattle.std.proofs.Common.{◌≡◌, ◌<◌, ◌≤◌, ℕ, length, slice_get}
use Rattle.std.specs.Option.{option_map}
use Rattle.ceph_snapshot.specs.Holding.{is_marked}
use Rattle.ceph_snapshot.specs.Policies.{kept_where}
use Rattle.ceph_snapshot.proofs.policies.mark_kept.Given as goal

-- those so far are kept where they may not be pinned, and the others are as they were
abbrev pub invariant-loop-at : goal.invariant-loop-at
invariant-loop-at l = record {
  size : length l.directories.items ≡ length l.fn.directories.items;
  kept : (i : ℕ) → i < l.at → slice_get l.directories.items i ≡ option_map (kept_where (is_marked l.above i)) (slice_get l.fn.directories.items i);
  rest : (i : ℕ) → l.at ≤ i → slice_get l.directories.items i ≡ slice_get l.fn.directories.items i;
}
