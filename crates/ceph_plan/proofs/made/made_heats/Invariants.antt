use Rattle.std.proofs.Common.{◌≡◌, ◌<◌, ◌+◌, ◌/◌, ℕ, cond, length, slice_index}
use Rattle.ceph_plan.specs.MadeHours.{is_free_child}
use Rattle.ceph_plan.proofs.made.made_heats.Given as goal

abbrev pub invariant-loop-i : goal.invariant-loop-i
invariant-loop-i l = record {
  size : length l.found.items ≡ l.i;
  heats : (j : ℕ) → j < l.i → slice_index l.found.items j ≡ slice_index l.heats j / 2 + cond (is_free_child l.rows l.free l.parent j) l.more 0;
}
