use Rattle.std.proofs.Common.{◌≡◌, ℕ, ◌+◌, ◌<◌, ◌≤◌, length}
use Rattle.heat_ledger.specs.Rows.{at}
use Rattle.heat_ledger.specs.Placed.{AreKeptCounts, data_of}
use Rattle.heat_ledger.proofs.counts.move_all.Given as goal

-- what left one list is in the other, and the noted entries up to here are 0
abbrev pub invariant-loop-j : goal.invariant-loop-j
invariant-loop-j l = record {
  long : length l.into.items ≡ length l.fn.into.items;
  kept : AreKeptCounts l.kept;
  limit : l.kept.limit ≡ l.fn.kept.limit;
  others : ((data_of l.kept).hits ≡ (data_of l.fn.kept).hits) × ((data_of l.kept).begun ≡ (data_of l.fn.kept).begun);
  sums : (e : ℕ) → at l.into.items e + at (data_of l.kept).pending e ≡ at l.fn.into.items e + at (data_of l.fn.kept).pending e;
  less : (e : ℕ) → at (data_of l.kept).pending e ≤ at (data_of l.fn.kept).pending e;
  done : (k : ℕ) → k < l.j → at (data_of l.kept).pending (at l.touched.items k) ≡ 0;
}
