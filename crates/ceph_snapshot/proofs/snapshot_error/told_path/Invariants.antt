use Rattle.std.proofs.Common.{◌≡◌, ◌++◌, take, string_bytes, codes, length, ◌==◌, if◌then◌else◌, []}
use Rattle.std.specs.List.{flat_map}
use Rattle.ceph_snapshot.specs.Shown.{shown_byte}
use Rattle.ceph_snapshot.proofs.snapshot_error.told_path.Given as goal

abbrev pub invariant-loop-byte : goal.invariant-loop-byte
invariant-loop-byte l = string_bytes l.text ≡ (if length l.path == 0 then codes "/" else []) ++ flat_map shown_byte (take l.byte-index l.path)
