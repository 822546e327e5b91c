use Rattle.std.proofs.Common.{◌≡◌, ◌+◌, ◌-◌, ◌<◌, ◌≤◌, ℕ, slice_index}
use Rattle.rank_assign.specs.Ways.{near_at}
use Rattle.rank_assign.proofs.hungarian.raise_debts.Given as goal

abbrev pub invariant-loop-j : goal.invariant-loop-j
invariant-loop-j l = record {
  done : (i : ℕ) → i < l.j → slice_index l.debts i ≡ slice_index l.initial.debts i + (l.far - near_at l.ways i);
  left : (i : ℕ) → l.j ≤ i → slice_index l.debts i ≡ slice_index l.initial.debts i;
}
