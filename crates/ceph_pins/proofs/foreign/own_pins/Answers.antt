use Rattle.ceph_dumps.specs.PathList.{path_bytes}
use Rattle.ceph_pins.proofs.OwnPinRows.{one_more}
use Rattle.ceph_pins.proofs.foreign.own_pins.Goals as goal

pub loop-at-preserved : goal.loop-at-preserved
loop-at-preserved c =
    one_more c.args.directories.now (path_bytes c.args.leave.now) c.loop-at.at c.loop-at.own.items c.push.new.self.items
    c.own_pins_of.result c.in_ok-push.ensures.items
    c.loop-at.invariant c.own_pins_of.ensures
