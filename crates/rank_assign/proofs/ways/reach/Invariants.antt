use Rattle.std.proofs.Common.{length, slice_index}
use Rattle.plan_checker.specs.Costs.{cell_at_place}
use Rattle.rank_assign.specs.Ways.{near_at, via_at, turn_at, IsReaching}
use Rattle.rank_assign.proofs.ways.reach.Given as goal

abbrev pub invariant-loop-reached : goal.invariant-loop-reached
invariant-loop-reached l =
    IsReaching (length l.debts) (cell_at_place l.cells (length l.debts)) (slice_index l.prices) (slice_index l.debts)
    (slice_index l.owners) l.part (near_at l.ways) (via_at l.ways) (turn_at l.ways) l.reached
