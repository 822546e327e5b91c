use Rattle.ceph_dumps.specs.PathList.{path_bytes}
use Rattle.ceph_pins.specs.OwnPins.{AreOwnPins}
use Rattle.ceph_pins.proofs.foreign.own_pins.Given as goal

abbrev pub invariant-loop-at : goal.invariant-loop-at
invariant-loop-at l = AreOwnPins l.directories (path_bytes l.leave) l.at l.own.items
