use Rattle.std.proofs.Common.{◌≡◌, ◌++◌, take}
use Rattle.std.specs.List.{flat_map}
use Rattle.pin_driver.specs.StoredText.{kept_byte}
use Rattle.drive_lines.proofs.questions.push_kept.Given as goal

-- the bytes so far
abbrev pub invariant-loop-byte : goal.invariant-loop-byte
invariant-loop-byte l = l.text.items ≡ l.fn.text.items ++ flat_map kept_byte (take l.byte-index l.bytes)
