use Rattle.std.proofs.Common.{◌<◌, ◌≤◌, ℕ, length}
use Rattle.ceph_plan.specs.Choice.{IsFewer, IsPlace, greatest_in, moved_in, packings_at, part_count_at}
use Rattle.ceph_plan.proofs.choice.chosen.Given as goal

-- of those so far that are within the limit, none is better
abbrev pub invariant-loop-at : goal.invariant-loop-at
invariant-loop-at l = record {
  place : IsPlace l.divisions l.best l.place;
  within : greatest_in (packings_at l.divisions l.best) l.place ≤ l.limit;
  fewest : (j w : ℕ) → j < l.at → w < length (packings_at l.divisions j) → greatest_in (packings_at l.divisions j) w ≤ l.limit
      → ¬ IsFewer (moved_in (packings_at l.divisions j) w) (part_count_at l.divisions j) (moved_in (packings_at l.divisions l.best) l.place)
      (part_count_at l.divisions l.best);
}
