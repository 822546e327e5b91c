use Rattle.std.proofs.Common.{◌≡◌, ◌<◌, ℕ, false, length, true}
use Rattle.ceph_folding.specs.Folding.{IsPlain}
use Rattle.ceph_snapshot.specs.Holding.{is_marked}
use Rattle.ceph_folding.proofs.folding.others.Given as goal

-- of the directories so far
abbrev pub invariant-loop-at : goal.invariant-loop-at
invariant-loop-at l = record {
  size : length l.gone.items ≡ l.at;
  plain : (i : ℕ) → i < l.at → is_marked l.gone.items i ≡ true → IsPlain l.directories i;
  other : (i : ℕ) → i < l.at → is_marked l.gone.items i ≡ true → is_marked l.units i ≡ false;
  all : (i : ℕ) → i < l.at → IsPlain l.directories i → is_marked l.units i ≡ false → is_marked l.gone.items i ≡ true;
}
