use Rattle.std.proofs.Common.{◌≡◌, ◌<◌, ℕ, Some, length, slice_index}
use Rattle.std.specs.List.{slice_get}
use Rattle.ceph_plan.specs.declared.made.MadeHour.{MadeHour}
use Rattle.ceph_plan.specs.MadeHours.{IsMadeHour, made_parent}
use Rattle.ceph_plan.proofs.made.made_from.Given as goal

abbrev pub invariant-loop-parent : goal.invariant-loop-parent
invariant-loop-parent l = record {
  size : length l.found.items ≡ l.parent-index;
  each : (k : ℕ) (one : MadeHour) → slice_get l.found.items k ≡ Some one → IsMadeHour l.rows l.free l.now one;
  same : (k : ℕ) → k < l.parent-index → made_parent l.found.items k ≡ slice_index l.parent-items k;
}
