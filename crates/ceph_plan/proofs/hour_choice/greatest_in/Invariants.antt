use Rattle.std.proofs.Common.{◌≡◌, ◌+◌, ◌*◌, slice_index, if◌then◌else◌}
use Rattle.mds_types.specs.RankSet.{has_rank}
use Rattle.mds_types.specs.Sums.{max_below}
use Rattle.ceph_plan.proofs.hour_choice.greatest_in.Given as goal

abbrev pub invariant-loop-number : goal.invariant-loop-number
invariant-loop-number l = l.most ≡ max_below l.number (λ r. if has_rank l.ranks r then slice_index l.loads (l.hour * 64 + r) else 0)
