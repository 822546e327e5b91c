use Rattle.std.proofs.Common.{◌≡◌, ◌*◌, ◌^◌, ◌≤◌, nat_lt}
use Rattle.mds_types.specs.Sums.{count_below}
use Rattle.ceph_pins.proofs.ranks.bits.Given as goal

abbrev pub invariant-loop-more : goal.invariant-loop-more
invariant-loop-more l = record {
  count : l.bits ≡ count_below l.more (λ bits. nat_lt (2 ^ bits) (2 * l.size));
  few : l.bits ≤ l.more;
}
