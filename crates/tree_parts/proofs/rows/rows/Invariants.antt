use Rattle.std.proofs.Common.{◌≡◌, ◌<◌, ◌≤◌, ◌^◌, ℕ, false, length, map}
use Rattle.std.specs.Prelude.{filter, slice_index, slice_index_or}
use Rattle.std.specs.List.{All}
use Rattle.dir_pins.specs.Pins.{below, is_unpinned, unpinned}
use Rattle.tree_parts.specs.ProblemRows.{place_of, row_of}
use Rattle.tree_parts.proofs.rows.rows.Given as goal

-- the rows of the directories so far, and the places of their numbers
abbrev pub invariant-loop-number : goal.invariant-loop-number
invariant-loop-number l = record {
  end : l.number ≤ length l.tree.entries;
  size : length l.places.items ≡ length l.tree.entries;
  few : length l.rows.items ≤ l.number;
  marks : length l.known.items ≡ length l.tree.entries;
  known : (d : ℕ) → d < l.number → slice_index_or l.known.items d false ≡ is_unpinned l.tree.entries l.pins.own d;
  places : (d : ℕ) → d < l.number → slice_index l.places.items d ≡ place_of (unpinned l.tree.entries l.pins.own) d;
  dirs : l.dirs.items ≡ filter (is_unpinned l.tree.entries l.pins.own) (below l.number);
  rows : l.rows.items ≡ map (row_of l.tree.entries l.heat.heats l.now (unpinned l.tree.entries l.pins.own))
      (filter (is_unpinned l.tree.entries l.pins.own) (below l.number));
  cool : All (λ row. row.heat ≤ 2 ^ 40) l.rows.items;
}
