use Rattle.std.proofs.Common.{◌≡◌, ◌<◌, ℕ, length, slice_index_or}
use Rattle.std.specs.Prelude.{None}
use Rattle.ceph_pins.specs.OwnList.{earlier_pin}
use Rattle.ceph_pins.proofs.pins.pins_before.Given as goal

abbrev pub invariant-loop-row : goal.invariant-loop-row
invariant-loop-row l = record {
  size : length l.pins.items ≡ l.row-index;
  pins : (i : ℕ) → i < l.row-index → slice_index_or l.pins.items i None ≡ earlier_pin l.rows i;
}
