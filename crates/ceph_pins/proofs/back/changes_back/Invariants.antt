use Rattle.std.proofs.Common.{◌≡◌, map, take}
use Rattle.ceph_pins.specs.Back.{restored}
use Rattle.ceph_pins.proofs.back.changes_back.Given as goal

-- the changes so far are restored, in their order
abbrev pub invariant-loop-change : goal.invariant-loop-change
invariant-loop-change l = l.back.items ≡ map (restored l.rows) (take l.change-index l.changes)
