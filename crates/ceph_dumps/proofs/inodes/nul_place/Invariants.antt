use Rattle.std.proofs.Common.{◌≡◌, false, take}
use Rattle.ceph_dumps.specs.Inodes.{has_nul}
use Rattle.ceph_dumps.proofs.inodes.nul_place.Given as goal

-- no byte so far is a NUL
abbrev pub invariant-loop-at : goal.invariant-loop-at
invariant-loop-at l = has_nul (take l.at l.text) ≡ false
