use Rattle.std.proofs.Common.{◌≡◌, All, map, take}
use Rattle.std.specs.List.{flat_map}
use Rattle.ceph_dumps.specs.HourRecord.{IsHeatLine, heat_path, line_heats}
use Rattle.ceph_dumps.proofs.hour_record.read_heats.Given as goal

abbrev pub invariant-loop-at : goal.invariant-loop-at
invariant-loop-at l = record {
  lines : All IsHeatLine (take l.at (map (λ line. line.now) l.lines));
  heats : map heat_path l.found.items ≡ flat_map line_heats (take l.at (map (λ line. line.now) l.lines));
}
