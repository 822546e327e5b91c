use Rattle.std.proofs.Common.{◌≡◌, ◌<◌, ◌+◌, ◌*◌, ℕ, length, slice_index}
use Rattle.mds_types.specs.Sums.{max_below}
use Rattle.ceph_plan.proofs.loads.greatest_loads.Given as goal

abbrev pub invariant-loop-rank : goal.invariant-loop-rank
invariant-loop-rank l = record {
  size : length l.found.items ≡ l.rank;
  greatest : (r : ℕ) → r < l.rank → slice_index l.found.items r ≡ max_below l.hours (λ h. slice_index l.loads (h * 64 + r));
}
