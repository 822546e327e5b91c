use Rattle.std.proofs.Common.{◌≡◌, ◌+◌, ◌*◌, slice_index}
use Rattle.mds_types.specs.Sums.{max_below}
use Rattle.ceph_plan.proofs.loads.greatest_at.Given as goal

abbrev pub invariant-loop-hour : goal.invariant-loop-hour
invariant-loop-hour l = l.most ≡ max_below l.hour (λ h. slice_index l.loads (h * 64 + l.at))
