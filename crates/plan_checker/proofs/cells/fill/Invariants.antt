use Rattle.std.proofs.Common.{◌≡◌, ◌<◌, ◌≤◌, ◌+◌, ◌*◌, ◌^◌, ℕ, true, slice_index, All}
use Rattle.mds_types.specs.RankSet.{has_rank}
use Rattle.plan_checker.specs.Costs.{cell_at, part_total}
use Rattle.plan_checker.proofs.cells.fill.Given as goal

abbrev pub invariant-loop-p : goal.invariant-loop-p
invariant-loop-p l = record {
  cells : (p r : ℕ) → p < l.p → has_rank l.ranks r ≡ true
      → cell_at l.ranks l.cells p r + slice_index l.sums (p * 64 + r) ≡ part_total l.sums p;
  small : All (λ cell. cell ≤ 2 ^ 48) l.cells;
}
