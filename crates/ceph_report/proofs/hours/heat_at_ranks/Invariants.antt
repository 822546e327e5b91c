use Rattle.std.proofs.Common.{◌≡◌, ◌≤◌, ◌*◌, ◌^◌, slice_index}
use Rattle.mds_types.specs.Sums.{sum_below}
use Rattle.ceph_report.proofs.hours.heat_at_ranks.Given as goal

abbrev pub invariant-loop-number : goal.invariant-loop-number
invariant-loop-number l = record {
  sum : l.all ≡ sum_below l.number (slice_index l.heats);
  small : l.all ≤ l.number * 2 ^ 64;
}
