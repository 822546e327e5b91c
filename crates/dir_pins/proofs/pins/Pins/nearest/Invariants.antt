use Rattle.std.proofs.Common.{◌≡◌, ◌≤◌, length, map}
use Rattle.dir_pins.specs.Pins.{below, nearest_pin}
use Rattle.dir_pins.proofs.pins.Pins.nearest.Given as goal

abbrev pub invariant-loop-number : goal.invariant-loop-number
invariant-loop-number l = record {
  end : l.number ≤ length l.tree.entries;
  pins : l.known.items ≡ map (nearest_pin l.tree.entries l.self.own) (below l.number);
}
