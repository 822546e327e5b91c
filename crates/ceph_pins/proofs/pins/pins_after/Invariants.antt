use Rattle.std.proofs.Common.{◌≡◌, ◌<◌, ℕ, length, slice_index_or, take}
use Rattle.std.specs.Prelude.{None}
use Rattle.ceph_plan.specs.Changes.{applied}
use Rattle.ceph_pins.specs.OwnList.{earlier_pin}
use Rattle.ceph_pins.proofs.pins.pins_after.Given as goal

-- each row has the pin that the changes so far leave it
abbrev pub invariant-loop-change : goal.invariant-loop-change
invariant-loop-change l = record {
  size : length l.pins.items ≡ length l.rows;
  pins : (i : ℕ) → i < length l.rows
      → slice_index_or l.pins.items i None ≡ applied (earlier_pin l.rows) (take l.change-index l.changes) i;
}
