use Rattle.std.proofs.Common.{List, ℕ}
use Rattle.drive_lines.proofs.Driven.{IsGoing}
use Rattle.drive_lines.specs.Dialogue.{HasTaken}
use Rattle.pin_driver.specs.declared.answer.HostAnswer.{HostAnswer}
use Rattle.drive_lines.proofs.driving.drive.Given as goal

-- what was read and written so far is that of the answers so far
abbrev pub invariant-loop : goal.invariant-loop
invariant-loop g l =
    (bytes : List ℕ) × (more : List HostAnswer) × HasTaken g.R.Read.remaining l.fn.host l.host bytes
    × IsGoing (g.R.Read.remaining l.fn.host.reader) l.fn.is_back l.fn.task l.machine l.was_set (g.W.Write.contents l.fn.writer)
    (g.W.Write.contents l.writer) bytes more
