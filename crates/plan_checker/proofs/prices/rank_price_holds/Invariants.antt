use Rattle.std.proofs.Common.{◌≡◌, ◌<◌, ℕ, pos, ◌+ℤ◌, ◌≤ℤ◌, slice_index, slice_index_or}
use Rattle.plan_checker.specs.Costs.{cell_at_place}
use Rattle.plan_checker.proofs.prices.rank_price_holds.Given as goal

abbrev pub invariant-loop-p : goal.invariant-loop-p
invariant-loop-p l = record {
  below : (q : ℕ) → q < l.p
      → (slice_index_or l.fn.part_price q (pos 0) +ℤ l.fn.price) ≤ℤ pos (cell_at_place l.column.cells.now l.column.width q l.column.place);
  chosen : (q : ℕ) → q < l.p → slice_index l.rank q ≡ l.r
      → (slice_index_or l.fn.part_price q (pos 0) +ℤ l.fn.price) ≡ pos (cell_at_place l.column.cells.now l.column.width q l.column.place);
}
