use Rattle.std.proofs.Common.{◌≡◌, ◌<◌, ℕ, false, get_or, length, take}
use Rattle.std.specs.List.{list_any}
use Rattle.script_board.specs.Looks.{brings}
use Rattle.script_board.proofs.looks.delivered.Given as goal

-- the messages that the entries so far deliver are marked
abbrev pub invariant-loop-number : goal.invariant-loop-number
invariant-loop-number g l = record {
  size : length l.marks.items ≡ length l.board.state.cluster.sent;
  marks : (m : ℕ) → m < length l.board.state.cluster.sent → get_or l.marks.items m false ≡ list_any (brings m) (take l.number l.board.history);
}
