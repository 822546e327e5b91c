use Rattle.std.proofs.Common.{◌≡◌, ◌++◌, take}
use Rattle.std.specs.List.{flat_map}
use Rattle.pin_driver.specs.StoredText.{earlier_text}
use Rattle.pin_driver.proofs.stored_writer.push_pins.Given as goal

-- the lines so far
abbrev pub invariant-loop-pin : goal.invariant-loop-pin
invariant-loop-pin l = l.text.items ≡ l.fn.text.items ++ flat_map earlier_text (take l.pin-index l.pins)
