use Rattle.std.proofs.Common.{◌≡◌, ◌≤◌, Ok, length, map, take}
use Rattle.std.specs.Prelude.{vec_capacity, vec_len}
use Rattle.script_board.specs.Steps.{find_all}
use Rattle.script_board.proofs.script_board.ScriptBoard.find_all.Given as goal

-- the directories of the paths so far are in the list
abbrev pub invariant-loop-path : goal.invariant-loop-path
invariant-loop-path g l = record {
  found : find_all l.self (map (λ path. path.now) (take l.path-index l.paths)) ≡ Ok l.dirs.items;
  few : vec_len l.dirs ≡ l.path-index;
  room : length l.paths ≤ vec_capacity l.dirs;
}
