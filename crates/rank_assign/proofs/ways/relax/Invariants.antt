use Rattle.std.proofs.Common.{◌≡◌, ◌+◌, ◌-◌, ◌<◌, ◌≤◌, ℕ, length, slice_index, slice_index_or}
use Rattle.plan_checker.specs.Costs.{cell_at_place}
use Rattle.rank_assign.specs.Ways.{no_way, IsImproved}
use Rattle.rank_assign.proofs.ways.relax.Given as goal

abbrev pub invariant-loop-j : goal.invariant-loop-j
invariant-loop-j l = record {
  done : (i : ℕ) → i < l.j → IsImproved (slice_index_or l.initial.ways i no_way) (slice_index_or l.ways i no_way)
      (l.near + (cell_at_place l.cells (length l.debts) l.part i + slice_index l.debts i - l.price)) (l.via + 1);
  left : (i : ℕ) → l.j ≤ i → slice_index_or l.ways i no_way ≡ slice_index_or l.initial.ways i no_way;
}
