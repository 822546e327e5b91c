use Rattle.std.proofs.Common.{◌≡◌, ◌≤◌, ◌<◌, ℕ, length, slice_index}
use Rattle.ceph_folding.specs.Folding.{kept_below}
use Rattle.ceph_snapshot.specs.Holding.{is_marked}
use Rattle.ceph_folding.proofs.folding.places.Given as goal

abbrev pub invariant-loop-is_gone : goal.invariant-loop-is_gone
invariant-loop-is_gone l = record {
  size : length l.places.items ≡ l.is_gone-index;
  kept : l.kept ≡ kept_below (is_marked l.gone) l.is_gone-index;
  few : l.kept ≤ l.is_gone-index;
  places : (i : ℕ) → i < l.is_gone-index → slice_index l.places.items i ≡ kept_below (is_marked l.gone) i;
}
