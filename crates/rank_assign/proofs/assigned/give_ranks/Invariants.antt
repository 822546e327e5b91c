use Rattle.std.proofs.Common.{◌≡◌, ◌+◌, ◌<◌, ℕ, true, slice_index}
use Rattle.mds_types.specs.RankSet.{has_rank}
use Rattle.plan_checker.specs.Costs.{rank_place}
use Rattle.rank_assign.proofs.assigned.give_ranks.Given as goal

abbrev pub invariant-loop-number : goal.invariant-loop-number
invariant-loop-number l = record {
  place_is : l.place ≡ rank_place l.fn.ranks l.number;
  given : (p r : ℕ) → r < l.number → has_rank l.fn.ranks r ≡ true → slice_index l.owners (rank_place l.fn.ranks r) ≡ p + 1
      → slice_index l.rank p ≡ r;
}
