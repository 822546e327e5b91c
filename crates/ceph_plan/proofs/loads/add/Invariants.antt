use Rattle.std.proofs.Common.{◌≡◌, ◌==◌, ◌<◌, ◌≤◌, ◌+◌, ◌*◌, ℕ, length, slice_index, cond}
use Rattle.ceph_plan.specs.Packing.{heat_in}
use Rattle.ceph_plan.proofs.loads.add.Given as goal

-- the hours before this one are done
abbrev pub invariant-loop-h : goal.invariant-loop-h
invariant-loop-h l = record {
  size : length l.loads.items ≡ length l.fn.loads.items;
  added : (k r : ℕ) → k < l.h → r < 64 → slice_index l.loads.items (k * 64 + r)
      ≡ slice_index l.fn.loads.items (k * 64 + r) + cond (l.to == r) (heat_in l.hours k l.one) 0;
  left : (j : ℕ) → l.h * 64 ≤ j → slice_index l.loads.items j ≡ slice_index l.fn.loads.items j;
}
