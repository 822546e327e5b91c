use Rattle.std.proofs.Common.{◌≤◌, ◌-◌, length}
use Rattle.rank_assign.proofs.assigned.ranks_of.Given as goal

abbrev pub decreases-loop-rank : goal.decreases-loop-rank
decreases-loop-rank l = l.count - length l.rank.items

abbrev pub invariant-loop-rank : goal.invariant-loop-rank
invariant-loop-rank l = length l.rank.items ≤ l.count
