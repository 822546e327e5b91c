use Rattle.std.proofs.Common.{◌≤◌, All, take}
use Rattle.ceph_dumps.proofs.wide_bytes.greatest.Given as goal

abbrev pub invariant-loop-byte : goal.invariant-loop-byte
invariant-loop-byte l = All (λ byte. byte ≤ l.greatest) (take l.byte-index l.bytes)
