use Rattle.std.proofs.Common.{◌≡◌, ◌<◌, ℕ, length}
use Rattle.ceph_snapshot.specs.Holding.{is_marked}
use Rattle.ceph_folding.specs.Keys.{goes}
use Rattle.ceph_folding.proofs.coldest.marks.Given as goal

abbrev pub invariant-loop-at : goal.invariant-loop-at
invariant-loop-at l = record {
  size : length l.marks.items ≡ l.at;
  marks : (i : ℕ) → i < l.at → is_marked l.marks.items i ≡ goes l.heats l.stays l.last i;
}
