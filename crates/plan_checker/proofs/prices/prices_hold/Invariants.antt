use Rattle.std.proofs.Common.{◌≡◌, ◌<◌, ℕ, true, length, slice_index}
use Rattle.mds_types.specs.Certificate.{part_price_at, rank_price_at}
use Rattle.mds_types.specs.RankSet.{has_rank}
use Rattle.mds_types.specs.Sums.{count_below}
use Rattle.plan_checker.specs.Costs.{cell_at}
use Rattle.plan_checker.specs.Prices.{RankPriceHolds, dual_of}
use Rattle.plan_checker.proofs.prices.prices_hold.Given as goal

abbrev pub invariant-loop-number : goal.invariant-loop-number
invariant-loop-number l = record {
  place_is : l.place ≡ count_below l.number (has_rank l.fn.ranks);
  held : (r : ℕ) → r < l.number → has_rank l.fn.ranks r ≡ true
      → RankPriceHolds (length l.rank) (slice_index l.rank) (part_price_at (dual_of l.part_price l.rank_price)) (λ p. cell_at l.fn.ranks l.cells p r) r
      (rank_price_at (dual_of l.part_price l.rank_price) l.fn.ranks r);
}
