use Rattle.std.proofs.Common.{◌≡◌, ◌<◌, ℕ, length}
use Rattle.ceph_snapshot.specs.Holding.{AreParentsFirst, IsHeld, held_at}
use Rattle.ceph_snapshot.proofs.held.holds.Given as goal

abbrev pub invariant-loop-at : goal.invariant-loop-at
invariant-loop-at l = record {
  size : length l.found.items ≡ l.at;
  held : AreParentsFirst l.directories → (i : ℕ) → i < l.at → IsHeld l.directories i (held_at l.found.items i);
}
