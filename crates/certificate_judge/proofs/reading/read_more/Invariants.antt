use Rattle.std.proofs.Common.{◌≡◌}
use Rattle.std.specs.Io.KnownBytes.{Keeps, prepend_known}
use Rattle.certificate_judge.proofs.reading.read_more.Given as goal

-- what was read is at the end of the bytes
abbrev pub invariant-loop-turn : goal.invariant-loop-turn
invariant-loop-turn g l = record {
  kept : Keeps (prepend_known l.fn.bytes.items (g.R.Read.remaining l.fn.reader)) (prepend_known l.bytes.items (g.R.Read.remaining l.reader));
  first : l.turn ≡ 0 → l.bytes.items ≡ l.fn.bytes.items;
}
