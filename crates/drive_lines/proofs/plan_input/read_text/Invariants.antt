use Rattle.drive_lines.specs.Dialogue.{HasTaken}
use Rattle.drive_lines.specs.Outcomes.{IsBeforeDot}
use Rattle.drive_lines.proofs.plan_input.read_text.Given as goal

-- what was read so far is the text so far
abbrev pub invariant-loop : goal.invariant-loop
invariant-loop g l = HasTaken g.R.Read.remaining l.fn.host l.host l.text.items × IsBeforeDot l.text.items
