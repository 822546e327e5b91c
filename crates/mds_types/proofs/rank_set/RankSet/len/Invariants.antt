use Rattle.std.proofs.Common.{◌≡◌, ◌≤◌}
use Rattle.mds_types.specs.RankSet.{has_rank}
use Rattle.mds_types.specs.Sums.{count_below}
use Rattle.mds_types.proofs.rank_set.RankSet.len.Given as goal

abbrev pub invariant-loop-number : goal.invariant-loop-number
invariant-loop-number l = (l.count ≡ count_below l.number (has_rank l.self)) × (l.count ≤ l.number)
