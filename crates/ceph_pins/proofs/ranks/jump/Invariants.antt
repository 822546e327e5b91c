use Rattle.std.proofs.Common.{◌≡◌, ◌-◌, ◌≤◌}
use Rattle.ceph_pins.specs.Ranks.{key_after, rank_after_jumps}
use Rattle.ceph_pins.proofs.ranks.jump.Given as goal

abbrev pub invariant-loop-step : goal.invariant-loop-step
invariant-loop-step l = record {
  key : l.key ≡ key_after l.hash l.step;
  rank : l.rank ≡ rank_after_jumps l.hash l.step;
  up : l.step ≤ l.rank;
  small : l.rank ≤ l.size - 1;
}
