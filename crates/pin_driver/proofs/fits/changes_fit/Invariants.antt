use Rattle.std.proofs.Common.{All, take}
use Rattle.pin_driver.specs.StoredText.{FitsChange}
use Rattle.pin_driver.proofs.fits.changes_fit.Given as goal

-- those so far fit
abbrev pub invariant-loop-change : goal.invariant-loop-change
invariant-loop-change l = All FitsChange (take l.change-index l.changes)
