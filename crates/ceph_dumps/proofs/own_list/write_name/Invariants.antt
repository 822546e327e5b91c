use Rattle.std.proofs.Common.{◌≡◌, ◌++◌, take}
use Rattle.std.specs.List.{flat_map}
use Rattle.ceph_dumps.specs.OwnList.{name_byte}
use Rattle.ceph_dumps.proofs.own_list.write_name.Given as goal

abbrev pub invariant-loop-byte : goal.invariant-loop-byte
invariant-loop-byte l = l.list.items ≡ l.fn.list.items ++ flat_map name_byte (take l.byte-index l.path)
