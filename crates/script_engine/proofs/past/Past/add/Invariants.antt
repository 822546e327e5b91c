use Rattle.std.proofs.Common.{◌≡◌, ◌++◌, take}
use Rattle.script_engine.specs.Past.{bytes_of}
use Rattle.script_engine.proofs.past.Past.add.Given as goal

abbrev pub invariant-loop-byte : goal.invariant-loop-byte
invariant-loop-byte l = bytes_of l.self ≡ bytes_of l.fn.self ++ take l.byte-index l.piece
