use Rattle.std.proofs.Common.{add-one}
use Rattle.ceph_pins.proofs.name_hash.name_hash.Goals as goal

pub loop-block-preserved : goal.loop-block-preserved
loop-block-preserved c = rw add-one (cc)
