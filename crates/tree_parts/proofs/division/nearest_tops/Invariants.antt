use Rattle.std.proofs.Common.{◌≡◌, ◌<◌, ◌≤◌, ℕ, List, length}
use Rattle.std.specs.Prelude.{slice_index_or}
use Rattle.tree_parts.specs.Parts.{Marks, top_of}
use Rattle.tree_parts.proofs.division.nearest_tops.Given as goal

-- the tops of the directories so far are found, and none has a larger number than its directory
abbrev pub invariant-loop-number : goal.invariant-loop-number
invariant-loop-number l = record {
  size : length l.found.items ≡ length l.tree.entries;
  above : (d : ℕ) → slice_index_or l.found.items d 0 ≤ d;
  nearest : (tops : List ℕ) → Marks l.is_top tops → (d : ℕ) → d < l.number → slice_index_or l.found.items d 0 ≡ top_of l.tree.entries tops d;
}
