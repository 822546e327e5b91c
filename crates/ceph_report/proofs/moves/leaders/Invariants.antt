use Rattle.std.proofs.Common.{◌<◌, ◌≤◌, ℕ, None, get_or, is_some, slice_index}
use Rattle.ceph_plan.specs.Rule.{parent_at}
use Rattle.ceph_report.specs.Moves.{AreLeaders}
use Rattle.ceph_report.proofs.moves.leaders.Given as goal

abbrev pub invariant-loop-at : goal.invariant-loop-at
invariant-loop-at l = record {
  led : AreLeaders (parent_at l.rows) (λ (i : ℕ). is_some (get_or l.pins i None)) l.at l.leaders.items;
  above : (i : ℕ) → i < l.at → slice_index l.leaders.items i ≤ i;
}
