use Rattle.std.proofs.Common.{◌≡◌, take, true}
use Rattle.std.specs.List.{list_all}
use Rattle.script_commands.specs.Commands.{is_plain}
use Rattle.script_commands.proofs.fields.is_plain_line.Given as goal

-- where the bytes so far are seen in print, they are plain
abbrev pub invariant-loop-byte : goal.invariant-loop-byte
invariant-loop-byte l = l.printed ≡ true → list_all is_plain (take l.byte-index l.line) ≡ true
