use Rattle.std.proofs.Common.{◌≡◌, ◌≤◌, length}
use Rattle.tree_parts.specs.Moves.{move_of}
use Rattle.tree_parts.proofs.SoFar.{IsSoFar}
use Rattle.tree_parts.proofs.largest_sets.orders.Given as goal

-- the orders of the directories so far
abbrev pub invariant-loop-number : goal.invariant-loop-number
invariant-loop-number l = record {
  end : l.number ≤ length l.tree.entries;
  size : length l.found.places.items ≡ length l.tree.entries;
  so_far : IsSoFar l.tree.entries (move_of l.tree.entries l.now l.target) l.number l.found.orders.items l.found.places.items;
}
