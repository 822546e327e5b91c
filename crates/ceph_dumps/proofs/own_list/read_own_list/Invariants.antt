use Rattle.std.proofs.Common.{◌≡◌, All, map, take}
use Rattle.std.specs.List.{flat_map}
use Rattle.ceph_dumps.specs.OwnList.{IsPinLine, line_pins, rank_path}
use Rattle.ceph_dumps.proofs.own_list.read_own_list.Given as goal

abbrev pub invariant-loop-at : goal.invariant-loop-at
invariant-loop-at l = record {
  lines : All (λ line. IsPinLine line.now) (take l.at l.lines.items);
  pins : map rank_path l.found.items ≡ flat_map (λ line. line_pins line.now) (take l.at l.lines.items);
}
