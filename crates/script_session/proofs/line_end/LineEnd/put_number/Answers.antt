use Rattle.std.proofs.Common.{◌+◌, ◌≤◌, length, drop, arith, length-drop, length-append}
use Rattle.std.specs.Prelude.{decimal}
use Rattle.std.proofs.lemmas.Fmt.{length-decimal-le, IsAscii-decimal}
use Rattle.std.proofs.lemmas.Str.{IsAscii-append}
use Rattle.script_session.proofs.line_end.LineEnd.put_number.Goals as goal

pub write_digits-self-inside-requires : goal.write_digits-self-inside-requires
write_digits-self-inside-requires c =
    let s = c.self.inside in
    let digits = length-decimal-le 20 c.args.number (omega arith) (omega arith) (omega arith) in
    let room : 20 + length (drop s.start s.bytes) ≤ 160 = rw (c.self.view_is) c.requires.room in (
      omega (arith, digits, length-drop s.start s.bytes, room),
      omega arith,
    )

pub invariant_of-self : goal.invariant_of-self
invariant_of-self c =
    let s = c.self.inside in (
      omega arith,
      rw (c.write_digits-self-inside.ensures.written) (IsAscii-append (decimal c.args.number) (drop s.start s.bytes)
          (IsAscii-decimal c.args.number (omega arith)) c.self.invariant.1),
    )

pub returns-clause-long : goal.returns-clause-long
returns-clause-long c =
    let s = c.self.inside in
    let digits = length-decimal-le 20 c.args.number (omega arith) (omega arith) (omega arith) in
    rw (c.write_digits-self-inside.ensures.written, length-append (decimal c.args.number) (drop s.start s.bytes), ← c.self.view_is) (omega (arith, digits))
