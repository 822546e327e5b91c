use Rattle.std.proofs.Common.{◌≡◌, ◌≤◌, length, take}
use Rattle.std.specs.Vec.{vec_len, vec_capacity}
use Rattle.mds_board.specs.Commands.{AreCarriedOut}
use Rattle.mds_board.proofs.board.Board.run.Given as goal

-- the commands so far have their answers, and there is room for the rest
abbrev pub invariant-loop-command : goal.invariant-loop-command
invariant-loop-command g l = record {
  answered : AreCarriedOut g.S.Solver.also l.fn.self (take l.command-index l.commands) l.answers.items l.self;
  count : vec_len l.answers ≡ l.command-index;
  room : length l.commands ≤ vec_capacity l.answers;
}
