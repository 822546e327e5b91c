use Rattle.std.proofs.Common.{◌≡◌, ◌≤◌, ◌<◌, ℕ, false, length, slice_get}
use Rattle.ceph_folding.specs.Folding.{kept_below, put_together}
use Rattle.ceph_snapshot.specs.Holding.{is_marked}
use Rattle.ceph_folding.proofs.folding.close_up.Given as goal

abbrev pub invariant-loop-at : goal.invariant-loop-at
invariant-loop-at l = record {
  size : length l.directories ≡ length l.fn.directories;
  count : l.kept ≡ kept_below (is_marked l.gone) l.at;
  few : l.kept ≤ l.at;
  behind : (i : ℕ) → l.at ≤ i → slice_get l.directories i ≡ slice_get l.fn.directories i;
  kept : (i : ℕ) → i < l.at → is_marked l.gone i ≡ false
      → slice_get l.directories (kept_below (is_marked l.gone) i) ≡ put_together l.fn.directories l.parents l.heats l.writes l.inodes i;
}
