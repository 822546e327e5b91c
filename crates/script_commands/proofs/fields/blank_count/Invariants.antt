use Rattle.std.proofs.Common.{◌≡◌, ℕ, ◌<◌, true, get_or}
use Rattle.script_commands.specs.Commands.{is_blank}
use Rattle.script_commands.proofs.fields.blank_count.Given as goal

-- the bytes so far are blanks
abbrev pub invariant-loop-i : goal.invariant-loop-i
invariant-loop-i l = (k : ℕ) → k < l.i → is_blank (get_or l.line k 0) ≡ true
