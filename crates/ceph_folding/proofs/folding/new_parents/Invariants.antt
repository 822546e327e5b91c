use Rattle.std.proofs.Common.{◌≡◌, ◌<◌, ℕ, length, slice_index}
use Rattle.ceph_folding.specs.Folding.{kept_below}
use Rattle.ceph_snapshot.specs.Holding.{parent_at, is_marked}
use Rattle.ceph_folding.proofs.folding.new_parents.Given as goal

abbrev pub invariant-loop-at : goal.invariant-loop-at
invariant-loop-at l = record {
  size : length l.parents.items ≡ l.at;
  parents : (i : ℕ) → i < l.at → slice_index l.parents.items i ≡ kept_below (is_marked l.fn.gone) (slice_index l.fn.homes (parent_at l.directories i));
}
