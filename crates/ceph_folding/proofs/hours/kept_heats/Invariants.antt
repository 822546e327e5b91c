use Rattle.std.proofs.Common.{◌≡◌, ◌<◌, ℕ, false, length, slice_index}
use Rattle.ceph_folding.specs.Folding.{kept_below}
use Rattle.ceph_snapshot.specs.Holding.{is_marked}
use Rattle.ceph_folding.proofs.hours.kept_heats.Given as goal

abbrev pub invariant-loop-at : goal.invariant-loop-at
invariant-loop-at l = record {
  size : length l.kept.items ≡ kept_below (is_marked l.fn.gone) l.at;
  kept : (i : ℕ) → i < l.at → is_marked l.fn.gone i ≡ false → slice_index l.kept.items (kept_below (is_marked l.fn.gone) i) ≡ slice_index l.heats i;
}
