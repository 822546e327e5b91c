use Rattle.std.proofs.Common.{length, slice_index}
use Rattle.plan_checker.specs.Costs.{cell_at_place}
use Rattle.rank_assign.specs.Matching.{IsMatching}
use Rattle.rank_assign.proofs.hungarian.place_parts.Given as goal

abbrev pub invariant-loop-part : goal.invariant-loop-part
invariant-loop-part l =
    IsMatching (length l.prices) (length l.debts) (cell_at_place l.cells (length l.debts)) (slice_index l.prices)
    (slice_index l.debts) (slice_index l.owners) l.part
