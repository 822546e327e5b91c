use Rattle.std.proofs.Common.{◌≡◌, ◌≢◌, ◌<◌, ◌≤◌, ◌+◌, ◌-◌, ◌*◌, ◌^◌, ℕ, true, slice_index, All}
use Rattle.mds_types.specs.RankSet.{has_rank, rank_count}
use Rattle.plan_checker.specs.Costs.{cell_at, rank_place}
use Rattle.plan_checker.proofs.cells.fill_part.Given as goal

abbrev pub invariant-loop-number : goal.invariant-loop-number
invariant-loop-number l = record {
  place_is : l.place ≡ l.part * rank_count l.fn.ranks + rank_place l.fn.ranks l.number;
  here : (r : ℕ) → r < l.number → has_rank l.fn.ranks r ≡ true
      → cell_at l.fn.ranks l.cells l.part r ≡ l.total - slice_index l.sums (l.part * 64 + r);
  other : (p r : ℕ) → p ≢ l.part → has_rank l.fn.ranks r ≡ true
      → cell_at l.fn.ranks l.cells p r ≡ cell_at l.fn.ranks l.initial.cells p r;
  small : All (λ cell. cell ≤ 2 ^ 48) l.cells;
}
