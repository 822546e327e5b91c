use Rattle.std.proofs.Common.{◌<◌, ◌≤◌, ℕ, slice_index}
use Rattle.ceph_snapshot.specs.Holding.{parent_at}
use Rattle.ceph_report.specs.Moves.{AreLeaders}
use Rattle.ceph_report.specs.Staying.{has_policy_at}
use Rattle.ceph_report.proofs.staying.policy_leaders.Given as goal

abbrev pub invariant-loop-at : goal.invariant-loop-at
invariant-loop-at l = record {
  led : AreLeaders (parent_at l.directories) (has_policy_at l.directories) l.at l.leaders.items;
  above : (i : ℕ) → i < l.at → slice_index l.leaders.items i ≤ i;
}
