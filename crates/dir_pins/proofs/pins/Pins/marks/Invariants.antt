use Rattle.std.proofs.Common.{◌≡◌, ◌<◌, ℕ, length, false}
use Rattle.std.specs.Prelude.{slice_index_or}
use Rattle.dir_pins.specs.Pins.{is_unpinned}
use Rattle.dir_pins.proofs.pins.Pins.marks.Given as goal

abbrev pub invariant-loop-number : goal.invariant-loop-number
invariant-loop-number l = record {
  size : length l.known.items ≡ length l.tree.entries;
  known : (d : ℕ) → d < l.number → slice_index_or l.known.items d false ≡ is_unpinned l.tree.entries l.self.own d;
}
