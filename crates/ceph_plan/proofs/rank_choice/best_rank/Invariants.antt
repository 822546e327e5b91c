use Rattle.std.proofs.Common.{◌≡◌, ◌<◌, ◌≤◌, ℕ, true}
use Rattle.mds_types.specs.RankSet.{has_rank}
use Rattle.ceph_plan.specs.Balance.{made}
use Rattle.ceph_plan.proofs.rank_choice.best_rank.Given as goal

abbrev pub invariant-loop-number : goal.invariant-loop-number
invariant-loop-number l = record {
  usable : has_rank l.parts.ranks l.best.0 ≡ true;
  load : l.best.1 ≡ made l.parts.hours.now l.loads l.part l.best.0;
  least : (r : ℕ) → r < l.number → has_rank l.parts.ranks r ≡ true → l.best.1 ≤ made l.parts.hours.now l.loads l.part r;
}
