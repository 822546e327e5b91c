use Rattle.std.proofs.Common.{◌≡◌, ℕ, ◌<◌, false, get_or}
use Rattle.pin_driver.specs.StoredReading.{closes_field}
use Rattle.pin_driver.proofs.fields.field_length.Given as goal

-- none of the bytes so far ends the field
abbrev pub invariant-loop-i : goal.invariant-loop-i
invariant-loop-i l = (k : ℕ) → k < l.i → closes_field (get_or l.text k 0) ≡ false
