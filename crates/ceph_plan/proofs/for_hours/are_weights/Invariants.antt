use Rattle.std.proofs.Common.{◌<◌, ◌≤◌, ℕ, slice_index}
use Rattle.ceph_plan.proofs.for_hours.are_weights.Given as goal

abbrev pub invariant-loop-weight : goal.invariant-loop-weight
invariant-loop-weight l = (h : ℕ) → h < l.weight-index → (0 < slice_index l.weights h) × (slice_index l.weights h ≤ 100)
