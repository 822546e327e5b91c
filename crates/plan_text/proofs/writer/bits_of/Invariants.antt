use Rattle.std.proofs.Common.{◌≡◌, ◌%◌, ◌^◌}
use Rattle.plan_text.proofs.writer.bits_of.Given as goal

-- the bits of the ranks below
abbrev pub invariant-loop-number : goal.invariant-loop-number
invariant-loop-number l = l.bits ≡ l.ranks % 2 ^ l.number
