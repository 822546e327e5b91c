use Rattle.std.proofs.Common.{◌≡◌, ◌≤◌, ◌<◌, ℕ, true, false, length}
use Rattle.ceph_folding.specs.Folding.{HasToStay, IsPlain}
use Rattle.ceph_snapshot.specs.Holding.{parent_at, is_marked}
use Rattle.ceph_folding.proofs.coldest.staying.Given as goal

abbrev pub invariant-loop-at : goal.invariant-loop-at
invariant-loop-at l = record {
  size : length l.stays.items ≡ length l.directories;
  low : l.at ≤ length l.directories;
  plain : (i : ℕ) → l.at ≤ i → i < length l.directories → is_marked l.stays.items i ≡ false → IsPlain l.directories i;
  above : (i : ℕ) → 0 < i → l.at ≤ i → i < length l.directories → is_marked l.stays.items i ≡ true → is_marked l.stays.items (parent_at l.directories i) ≡ true;
  needed : (i : ℕ) → is_marked l.stays.items i ≡ true → HasToStay l.directories i;
}
