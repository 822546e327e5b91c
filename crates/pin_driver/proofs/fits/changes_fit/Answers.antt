use Rattle.std.proofs.Common.{◌≡◌, All, arith, subst, take}
use Rattle.std.proofs.lemmas.List.{take_all}
use Rattle.pin_driver.specs.StoredText.{FitsChange}
use Rattle.pin_driver.proofs.Items.{all_next}
use Rattle.pin_driver.proofs.fits.changes_fit.Goals as goal

pub loop-change-preserved : goal.loop-change-preserved
loop-change-preserved c =
    all_next FitsChange c.args.changes.now c.loop-change.change-index c.change-item.result (omega arith) c.loop-change.invariant
    (subst FitsChange c.change-item.is c.change_fits.ensures)

pub returns-clause-all : goal.returns-clause-all
returns-clause-all c =
    let all : take c.loop-change.change-index c.args.changes.now ≡ c.args.changes.now = take_all c.loop-change.change-index c.args.changes.now
    (omega arith) in
    subst (All FitsChange) all c.loop-change.invariant
