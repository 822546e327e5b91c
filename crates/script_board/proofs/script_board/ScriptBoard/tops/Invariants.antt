use Rattle.std.proofs.Common.{◌≡◌, ℕ, List, Ok, length, map, take}
use Rattle.tree_parts.specs.Parts.{Marks}
use Rattle.script_board.specs.Cost.{tops}
use Rattle.script_board.proofs.script_board.ScriptBoard.tops.Given as goal

-- the tops that the paths so far name are marked
abbrev pub invariant-loop-path : goal.invariant-loop-path
invariant-loop-path g l = record {
  size : length l.is_top.items ≡ length l.self.world.state.directories.entries;
  marked : (ts : List ℕ) × (tops l.self (map (λ path. path.now) (take l.path-index l.paths)) ≡ Ok ts) × Marks l.is_top.items ts;
}
