use Rattle.std.proofs.Common.{◌≡◌, ◌≤◌, length}
use Rattle.std.specs.Prelude.{filter}
use Rattle.dir_pins.specs.Pins.{below, is_unpinned}
use Rattle.dir_pins.proofs.pins.Pins.unpinned.Given as goal

abbrev pub invariant-loop-number : goal.invariant-loop-number
invariant-loop-number l = record {
  end : l.number ≤ length l.tree.entries;
  dirs : l.dirs.items ≡ filter (is_unpinned l.tree.entries l.self.own) (below l.number);
}
