use Rattle.std.proofs.Common.{◌≡◌, ◌<◌, ℕ, length, slice_index}
use Rattle.ceph_folding.specs.Folding.{brought}
use Rattle.ceph_folding.proofs.amounts.at_homes.Given as goal

abbrev pub invariant-loop-at : goal.invariant-loop-at
invariant-loop-at l = record {
  size : length l.sums.items ≡ length l.amounts;
  sums : (there : ℕ) → there < length l.amounts → slice_index l.sums.items there ≡ brought (slice_index l.amounts) (slice_index l.fn.homes) l.at there;
}
