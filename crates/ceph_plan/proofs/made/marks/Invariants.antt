use Rattle.std.proofs.Common.{◌≡◌, ◌<◌, ℕ, length, slice_index}
use Rattle.ceph_plan.specs.MadeHours.{heat_mark}
use Rattle.ceph_plan.proofs.made.marks.Given as goal

abbrev pub invariant-loop-heat : goal.invariant-loop-heat
invariant-loop-heat l = record {
  size : length l.found.items ≡ l.heat-index;
  marks : (i : ℕ) → i < l.heat-index → slice_index l.found.items i ≡ heat_mark l.heats i;
}
