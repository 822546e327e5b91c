use Rattle.std.proofs.Common.{inr, true}
use Rattle.mdbal_ceph.proofs.past.refuse_others.Goals as goal

pub returns-then-not-is_same_file_system-clause-failed : goal.returns-then-not-is_same_file_system-clause-failed
returns-then-not-is_same_file_system-clause-failed c =
    inr (c.hour-item.result, (c.loop-hour.hour-index, (c.loop-hour-test.true, c.hour-item.is)), (cc), c.in_ok-other_file_system.ensures)
