use Rattle.std.proofs.Common.{◌≡◌}
use Rattle.ceph_pins.specs.NameHash.{after_blocks}
use Rattle.ceph_pins.proofs.name_hash.name_hash.Given as goal

abbrev pub invariant-loop-block : goal.invariant-loop-block
invariant-loop-block l = l.words ≡ after_blocks l.name l.block
