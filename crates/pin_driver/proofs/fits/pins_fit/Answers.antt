use Rattle.std.proofs.Common.{◌≡◌, All, arith, subst, take}
use Rattle.std.proofs.lemmas.List.{take_all}
use Rattle.pin_driver.specs.StoredText.{FitsEarlier}
use Rattle.pin_driver.proofs.Items.{all_next}
use Rattle.pin_driver.proofs.fits.pins_fit.Goals as goal

pub loop-pin-preserved : goal.loop-pin-preserved
loop-pin-preserved c =
    all_next FitsEarlier c.args.pins.now c.loop-pin.pin-index c.pin-item.result (omega arith) c.loop-pin.invariant
    (subst FitsEarlier c.pin-item.is c.earlier_fits.ensures)

pub returns-clause-all : goal.returns-clause-all
returns-clause-all c =
    let all : take c.loop-pin.pin-index c.args.pins.now ≡ c.args.pins.now = take_all c.loop-pin.pin-index c.args.pins.now (omega arith) in
    subst (All FitsEarlier) all c.loop-pin.invariant
