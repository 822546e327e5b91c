use Rattle.std.proofs.Common.{◌≡◌, ◌≤◌, drop}
use Rattle.std.specs.Str.{all_ascii_digits}
use Rattle.script_commands.specs.Commands.{value_from}
use Rattle.script_commands.proofs.number.number.Given as goal

-- the rest decides whether all are digits, and goes on with the number so far
abbrev pub invariant-loop-byte : goal.invariant-loop-byte
invariant-loop-byte l =
    record {
      digits : all_ascii_digits l.field ≡ all_ascii_digits (drop l.byte-index l.field);
      told : value_from 0 l.field ≡ value_from l.value (drop l.byte-index l.field);
      bound : l.value ≤ l.high;
    }
