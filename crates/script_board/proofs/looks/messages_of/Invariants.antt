use Rattle.std.proofs.Common.{◌≡◌, ◌<◌, All, length}
use Rattle.std.specs.Prelude.{filter}
use Rattle.dir_pins.specs.Pins.{below}
use Rattle.script_board.specs.Looks.{is_message_of}
use Rattle.script_board.proofs.looks.messages_of.Given as goal

-- the messages about the export among the numbers so far
abbrev pub invariant-loop-message : goal.invariant-loop-message
invariant-loop-message g l = record {
  messages : l.found.items ≡ filter (is_message_of l.board l.export) (below l.message);
  inside : All (λ m. m < length l.board.state.cluster.sent) l.found.items;
}
