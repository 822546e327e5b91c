use Rattle.std.proofs.Common.{◌<◌, ℕ}
use Rattle.ceph_plan.specs.Packing.{IsPinnedHeat, pinned_in}
use Rattle.ceph_plan.proofs.packing.have_pinned.Given as goal

abbrev pub invariant-loop-hour : goal.invariant-loop-hour
invariant-loop-hour l = (h : ℕ) → h < l.hour-index → IsPinnedHeat (pinned_in l.hours h)
