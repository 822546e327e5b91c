use Rattle.std.proofs.Common.{◌≡◌, ◌<◌, ◌≤◌, ◌+◌, ◌-◌, ◌*◌, ◌^◌, ℕ, vec_len, slice_index, All}
use Rattle.plan_checker.specs.Costs.{own_between, AreRows}
use Rattle.plan_checker.proofs.inodes.sums.Given as goal

abbrev pub invariant-loop-i : goal.invariant-loop-i
invariant-loop-i l = record {
  from : l.fn.from ≤ l.i;
  size : vec_len l.sums ≡ l.fn.count * 64;
  sums : (p r : ℕ) → p < l.fn.count → r < 64
      → slice_index l.sums.items (p * 64 + r) ≡ own_between l.rows (slice_index l.fn.part) l.fn.from l.i p r;
  small : All (λ sum. sum ≤ (l.i - l.fn.from) * 2 ^ 32) l.sums.items;
  rows : AreRows l.rows l.fn.from l.i;
}
