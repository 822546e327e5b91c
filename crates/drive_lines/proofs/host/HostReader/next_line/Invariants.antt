use Rattle.std.proofs.Common.{◌≡◌, length}
use Rattle.drive_lines.specs.Dialogue.{HasTaken, IsOneLine}
use Rattle.drive_lines.proofs.host.HostReader.next_line.Given as goal

-- what was read so far is the line so far
abbrev pub invariant-loop : goal.invariant-loop
invariant-loop g l =
    HasTaken g.R.Read.remaining l.fn.self l.self l.line.items × IsOneLine l.line.items × (length l.line.items ≡ l.counter)
