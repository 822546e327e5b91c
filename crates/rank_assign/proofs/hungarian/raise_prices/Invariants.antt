use Rattle.std.proofs.Common.{◌≡◌, ◌≢◌, ◌+◌, ◌-◌, ◌<◌, ℕ, slice_index}
use Rattle.rank_assign.specs.Ways.{near_at}
use Rattle.rank_assign.proofs.hungarian.raise_prices.Given as goal

abbrev pub invariant-loop-j : goal.invariant-loop-j
invariant-loop-j l = record {
  owners : (p i : ℕ) → i < l.j → slice_index l.owners i ≡ p + 1
      → slice_index l.prices p ≡ slice_index l.initial.prices p + (l.far - near_at l.ways i);
  others : (p : ℕ) → ((i : ℕ) → i < l.j → slice_index l.owners i ≢ p + 1)
      → slice_index l.prices p ≡ slice_index l.initial.prices p;
}
