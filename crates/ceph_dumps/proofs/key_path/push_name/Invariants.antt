use Rattle.std.proofs.Common.{◌≡◌, ◌++◌, map, string_bytes, take}
use Rattle.ceph_dumps.specs.KeyPath.{shown_name_byte}
use Rattle.ceph_dumps.proofs.key_path.push_name.Given as goal

abbrev pub invariant-loop-byte : goal.invariant-loop-byte
invariant-loop-byte l = string_bytes l.path ≡ string_bytes l.initial.path ++ map shown_name_byte (take l.byte-index l.name)
