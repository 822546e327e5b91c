use Rattle.std.proofs.Common.{◌≡◌, min}
use Rattle.ceph_snapshot.specs.Holding.{most_heat}
use Rattle.ceph_report.specs.Amounts.{cold_inodes}
use Rattle.ceph_report.proofs.moves.cold_inodes.Given as goal

-- of the directories so far
abbrev pub invariant-loop-at : goal.invariant-loop-at
invariant-loop-at l = l.inodes ≡ min most_heat (cold_inodes l.directories l.fn.holds l.fn.goals l.at)
