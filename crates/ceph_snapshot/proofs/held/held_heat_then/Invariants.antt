use Rattle.std.proofs.Common.{◌≡◌, ◌<◌, ◌+◌, ℕ, length, min, slice_index}
use Rattle.ceph_snapshot.specs.Holding.{held_below_then, most_heat}
use Rattle.ceph_snapshot.proofs.held.held_heat_then.Given as goal

abbrev pub invariant-loop-at : goal.invariant-loop-at
invariant-loop-at l = record {
  size : length l.held.items ≡ 64;
  heats : (r : ℕ) → r < 64 → slice_index l.held.items r
      ≡ min most_heat (slice_index l.fn.spread r + held_below_then l.directories l.fn.holds (slice_index l.fn.heats) r l.at);
}
