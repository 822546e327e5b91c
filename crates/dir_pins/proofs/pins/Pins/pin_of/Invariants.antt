use Rattle.std.proofs.Common.{◌≡◌}
use Rattle.dirtree.specs.Tree.{is_there}
use Rattle.dir_pins.specs.Pins.{nearest_pin}
use Rattle.dir_pins.proofs.pins.Pins.pin_of.Given as goal

-- what is reached is there if the first one is, and the same pin holds it
abbrev pub invariant-loop-row : goal.invariant-loop-row
invariant-loop-row l = record {
  there : is_there l.tree.entries l.at ≡ is_there l.tree.entries l.fn.dir;
  same : nearest_pin l.tree.entries l.self.own l.at ≡ nearest_pin l.tree.entries l.self.own l.fn.dir;
}

abbrev pub decreases-loop-row : goal.decreases-loop-row
decreases-loop-row l = l.at
