use Rattle.std.proofs.Common.{◌≡◌, ◌<◌, ℕ, length, slice_index}
use Rattle.ceph_folding.specs.Folding.{IsHome}
use Rattle.ceph_snapshot.specs.Holding.{is_marked}
use Rattle.ceph_folding.proofs.folding.homes.Given as goal

abbrev pub invariant-loop-at : goal.invariant-loop-at
invariant-loop-at l = record {
  size : length l.homes.items ≡ l.at;
  inside : (i : ℕ) → i < l.at → slice_index l.homes.items i < l.at;
  homes : (i : ℕ) → i < l.at → IsHome l.directories (is_marked l.fn.gone) i (slice_index l.homes.items i);
}
