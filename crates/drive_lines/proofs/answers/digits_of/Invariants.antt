use Rattle.std.proofs.Common.{◌≡◌, drop}
use Rattle.pin_driver.specs.StoredReading.{field_number, number_onto}
use Rattle.drive_lines.proofs.answers.digits_of.Given as goal

-- what the rest makes of the number so far is what all digits make
abbrev pub invariant-loop-byte : goal.invariant-loop-byte
invariant-loop-byte l = number_onto l.number (drop l.byte-index l.field) ≡ field_number l.field
