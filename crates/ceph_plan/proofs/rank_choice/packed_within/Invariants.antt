use Rattle.ceph_plan.proofs.PackedParts.{ArePacked}
use Rattle.ceph_plan.proofs.rank_choice.packed_within.Given as goal

abbrev pub invariant-loop-left : goal.invariant-loop-left
invariant-loop-left l =
    ArePacked l.parts.ranks l.parts.hours.now l.parts.heats.now l.parts.inodes.now l.parts.order.now l.parts.root l.limit l.rank.items
    l.done.items l.loads.items l.left

abbrev pub decreases-loop-left : goal.decreases-loop-left
decreases-loop-left l = l.left
