use Rattle.std.proofs.Common.{◌≡◌}
use Rattle.mds_types.specs.Sums.{max_below}
use Rattle.ceph_plan.specs.Packing.{heat_in}
use Rattle.ceph_plan.proofs.rank_choice.greatest_heat.Given as goal

abbrev pub invariant-loop-hour : goal.invariant-loop-hour
invariant-loop-hour l = l.most ≡ max_below l.hour-index (λ h. heat_in l.hours h l.part)
