use Rattle.std.proofs.Common.{◌≡◌, ◌<◌, ◌↔◌, ℕ, true, length}
use Rattle.ceph_snapshot.specs.Holding.{AreParentsFirst, is_marked}
use Rattle.ceph_snapshot.specs.Policies.{HasBeaten}
use Rattle.ceph_snapshot.proofs.policies.above_random.Given as goal

-- what the children from here on say
abbrev pub invariant-loop-at : goal.invariant-loop-at
invariant-loop-at l = record {
  size : length l.marks.items ≡ length l.directories;
  marks : AreParentsFirst l.directories → (i : ℕ) → 0 < i → i < length l.directories → (is_marked l.marks.items i ≡ true) ↔ HasBeaten l.directories l.at i;
}
