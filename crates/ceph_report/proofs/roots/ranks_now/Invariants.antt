use Rattle.std.proofs.Common.{◌≡◌, ◌<◌, ℕ, length, slice_index}
use Rattle.ceph_snapshot.specs.Holding.{now_at}
use Rattle.ceph_report.proofs.roots.ranks_now.Given as goal

abbrev pub invariant-loop-directory : goal.invariant-loop-directory
invariant-loop-directory l = record {
  size : length l.ranks.items ≡ l.directory-index;
  ranks : (i : ℕ) → i < l.directory-index → slice_index l.ranks.items i ≡ now_at l.directories i;
}
