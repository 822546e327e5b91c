use Rattle.std.proofs.Common.{◌≡◌, ◌-◌, length}
use Rattle.plan_text.specs.Reading.{read_lines, read_name, with_front}
use Rattle.plan_text.proofs.parser.name_lines.Given as goal

-- those so far, and what the rest is read as, are what the text is read as
abbrev pub invariant-loop : goal.invariant-loop
invariant-loop l = record {
  read : with_front l.names (read_lines read_name (l.rows - l.counter) l.rest) ≡ read_lines read_name l.rows l.text;
  size : length l.names ≡ l.counter;
}
