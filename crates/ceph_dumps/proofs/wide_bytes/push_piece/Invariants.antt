use Rattle.std.proofs.Common.{◌≡◌, ◌++◌, take}
use Rattle.ceph_dumps.specs.WideBytes.{wide}
use Rattle.ceph_dumps.proofs.wide_bytes.push_piece.Given as goal

abbrev pub invariant-loop-byte : goal.invariant-loop-byte
invariant-loop-byte l = l.text.items ≡ l.initial.text.items ++ wide (take l.byte-index l.piece)
