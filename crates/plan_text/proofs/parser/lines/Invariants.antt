use Rattle.std.proofs.Common.{◌≡◌, ◌-◌}
use Rattle.plan_text.specs.Reading.{read_lines, with_front}
use Rattle.plan_text.proofs.parser.lines.Given as goal

-- those so far, and what the rest is read as, are what the text is read as
abbrev pub invariant-loop : goal.invariant-loop
invariant-loop g l = with_front l.items.items (read_lines g.T.Line.at (l.count - l.counter) l.rest) ≡ read_lines g.T.Line.at l.count l.text
