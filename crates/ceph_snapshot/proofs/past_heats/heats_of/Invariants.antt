use Rattle.std.proofs.Common.{◌≡◌, map, take}
use Rattle.std.specs.List.{flat_map}
use Rattle.ceph_dumps.specs.HourRecord.{heat_path}
use Rattle.ceph_snapshot.specs.Hours.{heat_paths}
use Rattle.ceph_snapshot.proofs.past_heats.heats_of.Given as goal

abbrev pub invariant-loop-directory : goal.invariant-loop-directory
invariant-loop-directory l = map heat_path l.found.items ≡ flat_map heat_paths (take l.directory-index l.directories)
