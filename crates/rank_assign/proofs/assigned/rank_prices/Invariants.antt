use Rattle.std.proofs.Common.{◌≡◌, ◌<◌, ℕ, pos, neg_ℤ, length, slice_index, slice_index_or, vec_len}
use Rattle.rank_assign.proofs.assigned.rank_prices.Given as goal

abbrev pub invariant-loop-j : goal.invariant-loop-j
invariant-loop-j l = record {
  size : vec_len l.signed ≡ length l.debts;
  done : (i : ℕ) → i < l.j → slice_index_or l.signed.items i (pos 0) ≡ neg_ℤ (pos (slice_index l.debts i));
}
