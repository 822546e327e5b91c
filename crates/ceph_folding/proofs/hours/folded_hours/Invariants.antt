use Rattle.std.proofs.Common.{slice_index, take}
use Rattle.ceph_folding.specs.Folding.{AreHoursLeft}
use Rattle.ceph_snapshot.specs.Holding.{is_marked}
use Rattle.ceph_folding.proofs.hours.folded_hours.Given as goal

-- of the hours so far
abbrev pub invariant-loop-hour : goal.invariant-loop-hour
invariant-loop-hour l = AreHoursLeft (is_marked l.fn.gone) (slice_index l.fn.homes) (take l.hour-index l.hours) l.left.items
