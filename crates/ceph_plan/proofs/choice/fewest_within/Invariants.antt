use Rattle.std.proofs.Common.{◌<◌, ◌≤◌, ℕ, length}
use Rattle.ceph_plan.specs.Choice.{greatest_in, moved_in}
use Rattle.ceph_plan.proofs.choice.fewest_within.Given as goal

-- of those so far that are within the limit, the best moves the fewest inodes
abbrev pub invariant-loop-at : goal.invariant-loop-at
invariant-loop-at l = record {
  size : l.best ≤ length l.packings;
  within : l.best < length l.packings → greatest_in l.packings l.best ≤ l.limit;
  fewest : (v : ℕ) → v < l.at → greatest_in l.packings v ≤ l.limit → (l.best < length l.packings) × (moved_in l.packings l.best ≤ moved_in l.packings v);
}
