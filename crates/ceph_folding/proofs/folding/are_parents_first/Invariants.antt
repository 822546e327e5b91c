use Rattle.std.proofs.Common.{◌≤◌, ◌-◌, ◌<◌, ℕ}
use Rattle.ceph_snapshot.specs.Holding.{parent_at}
use Rattle.ceph_folding.proofs.folding.are_parents_first.Given as goal

abbrev pub invariant-loop-at : goal.invariant-loop-at
invariant-loop-at l = (i : ℕ) → i < l.at → parent_at l.directories i ≤ i - 1
