use Rattle.std.proofs.Common.{◌≡◌, ◌≤◌, ◌*◌, ◌^◌, slice_index}
use Rattle.mds_types.specs.Sums.{sum_below}
use Rattle.plan_checker.specs.Costs.{cell_at}
use Rattle.plan_checker.proofs.chosen.chosen_sum.Given as goal

abbrev pub invariant-loop-p : goal.invariant-loop-p
invariant-loop-p l = record {
  sum : l.sum ≡ sum_below l.p (λ p. cell_at l.fn.ranks l.cells p (slice_index l.rank p));
  small : l.sum ≤ l.p * 2 ^ 48;
}
