use Rattle.std.proofs.Common.{◌≡◌, ◌<◌, ℕ, length, min, slice_index}
use Rattle.ceph_snapshot.specs.Holding.{most_heat}
use Rattle.ceph_report.specs.Moves.{brought_by}
use Rattle.ceph_report.proofs.moves.brought_sums.Given as goal

abbrev pub invariant-loop-at : goal.invariant-loop-at
invariant-loop-at l = record {
  size : length l.sums.items ≡ length l.rows;
  sums : (i : ℕ) → i < length l.rows → slice_index l.sums.items i ≡ min most_heat (brought_by l.what l.directories l.holds l.rows l.leaders l.at i);
}
