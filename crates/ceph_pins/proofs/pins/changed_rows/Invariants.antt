use Rattle.std.proofs.Common.{◌≡◌, ◌<◌, ℕ, length, take}
use Rattle.ceph_pins.specs.Standing.{is_changed}
use Rattle.ceph_snapshot.specs.Holding.{is_marked}
use Rattle.ceph_pins.proofs.pins.changed_rows.Given as goal

abbrev pub invariant-loop-change : goal.invariant-loop-change
invariant-loop-change l = record {
  size : length l.marks.items ≡ l.count;
  marks : (i : ℕ) → i < l.count → is_marked l.marks.items i ≡ is_changed (take l.change-index l.changes) i;
}
