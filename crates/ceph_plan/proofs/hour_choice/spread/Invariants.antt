use Rattle.std.proofs.Common.{◌-◌, length}
use Rattle.ceph_plan.proofs.Choosing.{AreSoFar}
use Rattle.ceph_plan.proofs.hour_choice.spread.Given as goal

abbrev pub invariant-loop-alloc : goal.invariant-loop-alloc
invariant-loop-alloc l = AreSoFar l.of.ranks l.of.hours.now l.of.rows.now l.of.wanted l.of.own.now l.most l.chosen.items

abbrev pub decreases-loop-alloc : goal.decreases-loop-alloc
decreases-loop-alloc l = l.most - length l.chosen.items
