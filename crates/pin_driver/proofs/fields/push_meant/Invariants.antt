use Rattle.std.proofs.Common.{◌≡◌, ◌++◌, length}
use Rattle.pin_driver.specs.StoredReading.{meant_bytes}
use Rattle.pin_driver.proofs.fields.push_meant.Given as goal

-- what is added so far, with what the rest means, is all that the field means
abbrev pub invariant-loop-rest : goal.invariant-loop-rest
invariant-loop-rest l = l.bytes.items ++ meant_bytes 0 l.rest ≡ l.initial.bytes.items ++ meant_bytes 0 l.field

abbrev pub decreases-loop-rest : goal.decreases-loop-rest
decreases-loop-rest l = length l.rest
