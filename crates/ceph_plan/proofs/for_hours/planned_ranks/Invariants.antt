use Rattle.std.proofs.Common.{◌≡◌, ◌<◌, ℕ, length, slice_index}
use Rattle.ceph_plan.specs.Packing.{packed_rank}
use Rattle.ceph_plan.proofs.for_hours.planned_ranks.Given as goal

abbrev pub invariant-loop-one : goal.invariant-loop-one
invariant-loop-one l = record {
  size : length l.found.items ≡ l.one-index;
  ranks : (i : ℕ) → i < l.one-index → slice_index l.found.items i ≡ packed_rank l.rank l.part i;
}
