use Rattle.std.proofs.Common.{◌≡◌, ◌==◌, ℕ, ◌<◌, false, get_or}
use Rattle.drive_lines.proofs.answers.cut.Given as goal

-- none of the bytes so far is a blank
abbrev pub invariant-loop-at : goal.invariant-loop-at
invariant-loop-at l = (k : ℕ) → k < l.at → (get_or l.line k 0 == 32) ≡ false
