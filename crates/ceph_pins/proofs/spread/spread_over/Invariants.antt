use Rattle.std.proofs.Common.{◌≡◌, ◌<◌, ℕ, length, min, slice_index}
use Rattle.ceph_snapshot.specs.Holding.{most_heat}
use Rattle.ceph_pins.specs.Spreads.{heat_at_rank}
use Rattle.ceph_pins.proofs.spread.spread_over.Given as goal

abbrev pub invariant-loop-at : goal.invariant-loop-at
invariant-loop-at l = record {
  size : length l.spread.items ≡ l.size;
  sums : (r : ℕ) → r < l.size → slice_index l.spread.items r ≡ min most_heat (heat_at_rank l.directories l.heats l.below l.size l.at l.place r);
}
