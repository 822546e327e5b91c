use Rattle.std.proofs.Common.{◌≡◌, ◌∷◌, take}
use Rattle.std.specs.List.{flat_map}
use Rattle.ceph_plan.specs.Words.{escaped}
use Rattle.ceph_plan.proofs.quote.quoted.Given as goal

abbrev pub invariant-loop-byte : goal.invariant-loop-byte
invariant-loop-byte l = l.word.items ≡ 39 ∷ flat_map escaped (take l.byte-index l.bytes)
