use Rattle.std.proofs.Common.{◌≡◌, ◌++◌, length}
use Rattle.drive_lines.specs.HostLines.{line_fields}
use Rattle.drive_lines.proofs.answers.line_fields.Given as goal

-- the fields so far, with those of the rest, are all
abbrev pub invariant-loop-field : goal.invariant-loop-field
invariant-loop-field l = l.fields.items ++ line_fields l.rest ≡ line_fields l.line

abbrev pub decreases-loop-field : goal.decreases-loop-field
decreases-loop-field l = length l.rest
