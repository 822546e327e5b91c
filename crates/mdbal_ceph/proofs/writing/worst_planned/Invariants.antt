use Rattle.std.proofs.Common.{◌≡◌}
use Rattle.mds_types.specs.Sums.{max_below}
use Rattle.mdbal_ceph.specs.Writing.{other_planned}
use Rattle.mdbal_ceph.proofs.writing.worst_planned.Given as goal

abbrev pub invariant-loop-at : goal.invariant-loop-at
invariant-loop-at l =
    l.greatest ≡ max_below l.at (other_planned l.hours)
