use Rattle.std.proofs.Common.{arith}
use Rattle.plan_checker.proofs.PlaceLemmas.{rank_count-le}
use Rattle.rank_assign.proofs.moved_inodes.sums.Goals as goal

pub sums-requires-clause-parts : goal.sums-requires-clause-parts
sums-requires-clause-parts c = omega (arith, rank_count-le c.args.problem.now.ranks, c.requires.parts.few)
