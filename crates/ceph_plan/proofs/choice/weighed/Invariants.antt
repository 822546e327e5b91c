use Rattle.std.proofs.Common.{◌<◌, ◌≤◌, ◌+◌, ◌-◌}
use Rattle.mds_types.specs.RankSet.{rank_count}
use Rattle.ceph_plan.specs.Choice.{IsTriedCount}
use Rattle.ceph_plan.proofs.Weighed.{IsSoFar}
use Rattle.ceph_plan.proofs.choice.weighed.Given as goal

-- what was weighed below this number of parts, and that the last one was tried where it is passed
abbrev pub invariant-loop-parts : goal.invariant-loop-parts
invariant-loop-parts l = record {
  weighed : IsSoFar l.of.ranks l.of.hours.now l.of.rows.now l.divisions.items l.is_heavy l.parts;
  from : rank_count l.of.ranks ≤ l.parts;
  ended : l.last < l.parts → IsTriedCount l.of.ranks l.of.hours.now l.of.rows.now l.divisions.items l.last;
}

abbrev pub decreases-loop-parts : goal.decreases-loop-parts
decreases-loop-parts l = l.last + 1 - l.parts
