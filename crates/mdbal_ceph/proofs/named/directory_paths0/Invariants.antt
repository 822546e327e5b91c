use Rattle.std.proofs.Common.{◌≡◌, take}
use Rattle.mdbal_ceph.specs.Named.{directory_paths0}
use Rattle.mdbal_ceph.proofs.named.directory_paths0.Given as goal

abbrev pub invariant-loop-directory : goal.invariant-loop-directory
invariant-loop-directory l = l.text.items ≡ directory_paths0 (take l.directory-index l.directories)
