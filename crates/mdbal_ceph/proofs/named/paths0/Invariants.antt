use Rattle.std.proofs.Common.{◌≡◌, take}
use Rattle.mdbal_ceph.specs.Named.{paths0}
use Rattle.mdbal_ceph.proofs.named.paths0.Given as goal

abbrev pub invariant-loop-pin : goal.invariant-loop-pin
invariant-loop-pin l = l.text.items ≡ paths0 l.directories (take l.pin-index l.own)
