use Rattle.std.proofs.Common.{◌≡◌, ◌≤◌, ℕ, List, length, map}
use Rattle.std.specs.Prelude.{filter}
use Rattle.dir_pins.specs.Pins.{below}
use Rattle.tree_parts.specs.Parts.{Marks, is_free_top, part_at}
use Rattle.tree_parts.proofs.division.parts.Given as goal

-- the parts of the tops so far
abbrev pub invariant-loop-top : goal.invariant-loop-top
invariant-loop-top l = record {
  end : l.top ≤ length l.tree.entries;
  parts : (tops : List ℕ) → Marks l.is_top tops → l.parts.items
      ≡ map (part_at l.tree.entries l.pins.own l.heat.heats tops) (filter (is_free_top l.tree.entries l.pins.own tops) (below l.top));
}
