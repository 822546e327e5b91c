use Rattle.std.proofs.Common.{◌≡◌, All, take}
use Rattle.std.specs.List.{flat_map}
use Rattle.ceph_dumps.specs.PathList.{IsPathLine, line_paths, path_bytes}
use Rattle.ceph_dumps.proofs.path_list.read_path_list.Given as goal

abbrev pub invariant-loop-at : goal.invariant-loop-at
invariant-loop-at l = record {
  lines : All (λ line. IsPathLine line.now) (take l.at l.lines.items);
  paths : path_bytes l.found.items ≡ flat_map (λ line. line_paths line.now) (take l.at l.lines.items);
}
