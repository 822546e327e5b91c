use Rattle.std.proofs.Common.{◌≡◌, ◌<◌, ◌≤◌, ◌+◌, ◌-◌, ◌*◌, ◌^◌, ℕ}
use Rattle.rank_assign.specs.Ways.{near_at, turn_at}
use Rattle.rank_assign.proofs.ways.nearest.Given as goal

abbrev pub invariant-loop-j : goal.invariant-loop-j
invariant-loop-j l = record {
  inside : l.least < 2 ^ 64 - 1 → l.nearest < l.j;
  unseen : l.least < 2 ^ 64 - 1 → turn_at l.ways l.nearest ≡ 0;
  near_is : l.least < 2 ^ 64 - 1 → near_at l.ways l.nearest * 2 ≤ l.least;
  best : (i : ℕ) → i < l.j → turn_at l.ways i ≡ 0 → l.least ≤ near_at l.ways i * 2 + 1;
}
