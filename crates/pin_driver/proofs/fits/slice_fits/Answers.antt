use Rattle.std.proofs.Common.{arith}
use Rattle.pin_driver.proofs.Items.{same_item}
use Rattle.pin_driver.proofs.fits.slice_fits.Goals as goal

pub returns : goal.returns
returns c = λ k d lt. rw (same_item c.args.bytes.now k d 0 lt) (omega (arith, c.type_inv.bytes k))
