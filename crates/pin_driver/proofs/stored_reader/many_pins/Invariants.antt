use Rattle.std.proofs.Common.{◌≡◌, ◌-◌}
use Rattle.pin_driver.specs.StoredReading.{read_earlier, read_many, after_those}
use Rattle.pin_driver.proofs.stored_reader.many_pins.Given as goal

-- those so far, and what the rest is read as, are what the text is read as
abbrev pub invariant-loop : goal.invariant-loop
invariant-loop l = after_those l.pins.items (read_many read_earlier (l.count - l.counter) l.rest) ≡ read_many read_earlier l.count l.text
