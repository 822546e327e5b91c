use Rattle.std.proofs.Common.{◌≡◌, ◌++◌, drop, None}
use Rattle.ceph_dumps.specs.WideBytes.{narrow_behind}
use Rattle.ceph_dumps.proofs.wide_bytes.narrowed.Given as goal

-- what is read so far, with what will be read of the rest, is what the text reads as
abbrev pub invariant-loop-byte : goal.invariant-loop-byte
invariant-loop-byte l = l.bytes.items ++ narrow_behind l.lead (drop l.byte-index l.text) ≡ narrow_behind None l.text
