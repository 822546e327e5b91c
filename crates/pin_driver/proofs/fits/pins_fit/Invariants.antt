use Rattle.std.proofs.Common.{All, take}
use Rattle.pin_driver.specs.StoredText.{FitsEarlier}
use Rattle.pin_driver.proofs.fits.pins_fit.Given as goal

-- those so far fit
abbrev pub invariant-loop-pin : goal.invariant-loop-pin
invariant-loop-pin l = All FitsEarlier (take l.pin-index l.pins)
