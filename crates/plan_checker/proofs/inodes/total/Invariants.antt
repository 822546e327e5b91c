use Rattle.std.proofs.Common.{◌≡◌}
use Rattle.plan_checker.proofs.InodeLemmas.{total_so_far}
use Rattle.plan_checker.proofs.inodes.total.Given as goal

abbrev pub invariant-loop-rank : goal.invariant-loop-rank
invariant-loop-rank l = l.total ≡ total_so_far l.sums l.part l.rank
