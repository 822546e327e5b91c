use Rattle.ceph_pins.specs.Spreads.{IsPlaceFound}
use Rattle.ceph_pins.proofs.spread.hottest.Given as goal

abbrev pub invariant-loop-at : goal.invariant-loop-at
invariant-loop-at l = IsPlaceFound l.directories l.below l.hot l.at l.found
