use Rattle.std.proofs.Common.{◌≡◌, ◌<◌, ◌/◌, ℕ, length, slice_index}
use Rattle.ceph_plan.proofs.made.halved.Given as goal

abbrev pub invariant-loop-heat : goal.invariant-loop-heat
invariant-loop-heat l = record {
  size : length l.found.items ≡ l.heat-index;
  half : (i : ℕ) → i < l.heat-index → slice_index l.found.items i ≡ slice_index l.heats i / 2;
}
