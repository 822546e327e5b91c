use Rattle.std.proofs.Common.{◌≡◌, ◌≤◌, ◌+◌, ◌++◌, map, take}
use Rattle.std.specs.Prelude.{vec_capacity, vec_len}
use Rattle.script_board.specs.Serve.{refusals}
use Rattle.script_board.proofs.script_board.ScriptBoard.tell.Given as goal

-- the refusals so far are added
abbrev pub invariant-loop-seat : goal.invariant-loop-seat
invariant-loop-seat g l = record {
  told : l.refused.items ≡ l.initial.refused.items ++ refusals (map (λ a. a.items) l.answers) (take l.seat-index l.seats);
  few : vec_len l.refused ≤ vec_len l.initial.refused + l.seat-index;
  room : vec_capacity l.refused ≡ vec_capacity l.initial.refused;
}
