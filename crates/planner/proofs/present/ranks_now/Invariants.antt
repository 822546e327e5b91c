use Rattle.std.proofs.Common.{◌≡◌, ◌<◌, ◌≤◌, ℕ, length, slice_index}
use Rattle.planner.specs.Present.{AreRanksNow, IsNumber}
use Rattle.planner.proofs.present.ranks_now.Given as goal

abbrev pub invariant-loop-row : goal.invariant-loop-row
invariant-loop-row l = record {
  are : AreRanksNow l.rows l.row-index l.found.part.items l.found.rank.items;
  few : length l.found.rank.items ≤ l.row-index;
  numbered : (r : ℕ) → r < 64 → IsNumber l.found.rank.items r (slice_index l.numbers.items r);
  size : length l.numbers.items ≡ 64;
}
