use Rattle.std.proofs.Common.{◌-◌, drop, arith, take_all, length-drop}
use Rattle.std.proofs.lemmas.Str.{IsUtf8-from_ascii}
use Rattle.script_session.proofs.line_end.LineEnd.text.Goals as goal

pub from_utf8_unchecked-requires : goal.from_utf8_unchecked-requires
from_utf8_unchecked-requires c =
    let s = c.self.inside in
    IsUtf8-from_ascii _ (rw (take_all (160 - s.start) (drop s.start s.bytes) (omega (arith, length-drop s.start s.bytes))) c.self.invariant.1)
