use Rattle.std.proofs.Common.{◌≡◌, ◌-◌}
use Rattle.pin_driver.specs.StoredReading.{read_change, read_many, after_those}
use Rattle.pin_driver.proofs.stored_reader.many_changes.Given as goal

-- those so far, and what the rest is read as, are what the text is read as
abbrev pub invariant-loop : goal.invariant-loop
invariant-loop l = after_those l.changes.items (read_many read_change (l.count - l.counter) l.rest) ≡ read_many read_change l.count l.text
