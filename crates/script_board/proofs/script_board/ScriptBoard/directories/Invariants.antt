use Rattle.std.proofs.Common.{◌≡◌, ◌<◌, All}
use Rattle.std.specs.Prelude.{filter}
use Rattle.dirtree.specs.Tree.{is_there}
use Rattle.dir_pins.specs.Pins.{below}
use Rattle.script_board.proofs.script_board.ScriptBoard.directories.Given as goal

-- the directories among the numbers so far
abbrev pub invariant-loop-number : goal.invariant-loop-number
invariant-loop-number g l = record {
  dirs : l.dirs.items ≡ filter (is_there l.self.world.state.directories.entries) (below l.number);
  inside : All (λ dir. dir < l.self.world.state.directories.limit) l.dirs.items;
}
