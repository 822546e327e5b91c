use Rattle.std.proofs.Common.{◌<◌, ◌≤◌, ℕ, length, slice_index}
use Rattle.ceph_plan.proofs.made.greatest_place.Given as goal

abbrev pub invariant-loop-i : goal.invariant-loop-i
invariant-loop-i l = record {
  inside : l.best < length l.numbers;
  greatest : (j : ℕ) → j < l.i → slice_index l.numbers j ≤ slice_index l.numbers l.best;
}
