use Rattle.std.proofs.Common.{◌≡◌, ◌<◌, ℕ, length, slice_index}
use Rattle.ceph_report.specs.Amounts.{goal_at}
use Rattle.ceph_report.proofs.moves.goals_of.Given as goal

abbrev pub invariant-loop-at : goal.invariant-loop-at
invariant-loop-at l = record {
  size : length l.goals.items ≡ l.at;
  goals : (i : ℕ) → i < l.at → slice_index l.goals.items i ≡ goal_at l.holds l.rows i;
}
