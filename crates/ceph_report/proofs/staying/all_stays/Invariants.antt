use Rattle.std.proofs.Common.{◌≡◌, ◌<◌, ℕ, None, length, slice_index_or}
use Rattle.ceph_report.specs.Staying.{stay_at}
use Rattle.ceph_report.proofs.staying.all_stays.Given as goal

abbrev pub invariant-loop-at : goal.invariant-loop-at
invariant-loop-at l = record {
  size : length l.stays.items ≡ l.at;
  at : (i : ℕ) → i < l.at → slice_index_or l.stays.items i None ≡ stay_at l.directories l.leaders i;
}
