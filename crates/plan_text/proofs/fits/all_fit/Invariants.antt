use Rattle.std.proofs.Common.{All, take}
use Rattle.plan_text.proofs.fits.all_fit.Given as goal

-- those so far fit
abbrev pub invariant-loop-item : goal.invariant-loop-item
invariant-loop-item g l = All g.T.Line.fits (take l.item-index l.items)
