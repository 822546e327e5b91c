use Rattle.std.proofs.Common.{◌≡◌, ◌++◌, map, take}
use Rattle.script_board.specs.Looks.{message_fact}
use Rattle.script_board.proofs.looks.add_messages.Given as goal

-- the messages so far are added
abbrev pub invariant-loop-message : goal.invariant-loop-message
invariant-loop-message g l = l.facts.items ≡ l.initial.facts.items ++ map (message_fact l.board) (take l.message-index l.messages)
