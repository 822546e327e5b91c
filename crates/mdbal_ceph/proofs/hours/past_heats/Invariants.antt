use Rattle.std.proofs.Common.{length, take}
use Rattle.ceph_folding.specs.Folding.{AreHoursOf}
use Rattle.mdbal_ceph.specs.Hours.{AreSeenAt}
use Rattle.mdbal_ceph.proofs.hours.past_heats.Given as goal

abbrev pub invariant-loop-hour : goal.invariant-loop-hour
invariant-loop-hour l =
    record { each : AreSeenAt l.directories (take l.hour-index l.earlier) l.hours.items; sizes : AreHoursOf (length l.directories) l.hours.items }
