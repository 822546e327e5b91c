use Rattle.std.proofs.Common.{◌+◌, ◌<◌, ℕ, length, slice_index, slice_index_or}
use Rattle.plan_checker.specs.Costs.{cell_at_place}
use Rattle.rank_assign.specs.Ways.{no_way, IsFirstWay}
use Rattle.rank_assign.proofs.ways.start.Given as goal

abbrev pub invariant-loop-j : goal.invariant-loop-j
invariant-loop-j l =
    (i : ℕ) → i < l.j → IsFirstWay (slice_index_or l.ways i no_way)
    (cell_at_place l.cells (length l.debts) l.part i + slice_index l.debts i)
