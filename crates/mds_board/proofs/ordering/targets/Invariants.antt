use Rattle.std.proofs.Common.{◌≡◌, ◌<◌, ◌≤◌, ℕ, None, drop, length}
use Rattle.std.specs.Prelude.{slice_index_or}
use Rattle.mds_board.specs.State.{planned_from}
use Rattle.mds_board.proofs.ordering.targets.Given as goal

-- the rows from here on have written their ranks
abbrev pub invariant-loop-row : goal.invariant-loop-row
invariant-loop-row l = record {
  end : l.row ≤ length l.dirs;
  size : length l.ranks.items ≡ l.fn.numbers;
  ranks : (d : ℕ) → d < l.fn.numbers → slice_index_or l.ranks.items d None ≡ planned_from l.row (drop l.row l.dirs) l.plan d;
}
