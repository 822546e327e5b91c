use Rattle.std.proofs.Common.{◌≡◌, min}
use Rattle.ceph_snapshot.specs.Holding.{most_heat}
use Rattle.ceph_report.specs.Amounts.{heat_going}
use Rattle.ceph_report.proofs.moves.heat_going.Given as goal

-- of the directories so far
abbrev pub invariant-loop-at : goal.invariant-loop-at
invariant-loop-at l = l.heat ≡ min most_heat (heat_going l.directories l.fn.holds l.fn.goals l.at)
