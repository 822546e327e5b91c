use Rattle.std.proofs.Common.{take}
use Rattle.mdbal_ceph.specs.Hours.{ArePastHours}
use Rattle.mdbal_ceph.proofs.hours.past_hours.Given as goal

abbrev pub invariant-loop-at : goal.invariant-loop-at
invariant-loop-at l =
    ArePastHours (take l.at l.earlier) (take l.at l.heats) l.past.items
