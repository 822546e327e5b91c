use Rattle.std.proofs.Common.{◌≡◌, ◌<◌, ℕ, pos, length, slice_index, slice_index_or, vec_len}
use Rattle.rank_assign.proofs.assigned.part_prices.Given as goal

abbrev pub invariant-loop-p : goal.invariant-loop-p
invariant-loop-p l = record {
  size : vec_len l.signed ≡ length l.prices;
  done : (i : ℕ) → i < l.p → slice_index_or l.signed.items i (pos 0) ≡ pos (slice_index l.prices i);
}
