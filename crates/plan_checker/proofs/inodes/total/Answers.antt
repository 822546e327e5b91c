use Rattle.std.proofs.Common.{arith}
use Rattle.plan_checker.proofs.InodeLemmas.{part_total_all, total_room}
use Rattle.plan_checker.proofs.inodes.total.Goals as goal

pub overflow_add-total-in-loop-rank : goal.overflow_add-total-in-loop-rank
overflow_add-total-in-loop-rank c =
    omega (
      arith,
      total_room c.args.sums.now c.args.part c.loop-rank.rank c.loop-rank.total (omega arith) c.loop-rank.invariant,
      c.requires.small,
    )

pub returns : goal.returns
returns c =
    part_total_all c.args.sums.now c.args.part c.loop-rank.rank c.loop-rank.total (omega arith) c.loop-rank.invariant
