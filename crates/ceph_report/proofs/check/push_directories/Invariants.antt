use Rattle.std.proofs.Common.{◌≡◌, ◌++◌, take}
use Rattle.std.specs.List.{flat_map}
use Rattle.ceph_report.specs.Check.{astray_line}
use Rattle.ceph_report.proofs.check.push_directories.Given as goal

abbrev pub invariant-loop-directory : goal.invariant-loop-directory
invariant-loop-directory l = l.text.items ≡ l.fn.text.items ++ flat_map astray_line (take l.directory-index l.directories)
