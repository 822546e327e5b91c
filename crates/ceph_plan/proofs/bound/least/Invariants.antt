use Rattle.std.proofs.Common.{◌≡◌, ◌≤◌, ◌<◌, ℕ, slice_index, true}
use Rattle.mds_types.specs.RankSet.{has_rank}
use Rattle.ceph_plan.proofs.bound.least.Given as goal

abbrev pub invariant-loop-number : goal.invariant-loop-number
invariant-loop-number l = record {
  least : (r : ℕ) → r < l.number → has_rank l.ranks r ≡ true → l.least ≤ slice_index l.numbers r;
  one : (r : ℕ) × (has_rank l.ranks r ≡ true) × (slice_index l.numbers r ≡ l.least);
}
