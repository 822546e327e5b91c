use Rattle.std.proofs.Common.{◌≡◌, ◌≤◌}
use Rattle.mds_types.specs.Sums.{count_below}
use Rattle.ceph_pins.specs.Standing.{is_standing}
use Rattle.ceph_pins.proofs.pins.standing_pins.Given as goal

abbrev pub invariant-loop-at : goal.invariant-loop-at
invariant-loop-at l = record {
  count : l.count ≡ count_below l.at (is_standing l.rows l.fn.changes);
  few : l.count ≤ l.at;
}
