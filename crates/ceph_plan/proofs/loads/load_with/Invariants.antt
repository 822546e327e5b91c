use Rattle.std.proofs.Common.{◌≡◌, ◌+◌, ◌*◌, slice_index}
use Rattle.mds_types.specs.Sums.{max_below}
use Rattle.ceph_plan.specs.Packing.{heat_in}
use Rattle.ceph_plan.proofs.loads.load_with.Given as goal

abbrev pub invariant-loop-h : goal.invariant-loop-h
invariant-loop-h l = l.most ≡ max_below l.h (λ h. slice_index l.loads (h * 64 + l.at) + heat_in l.hours h l.one)
