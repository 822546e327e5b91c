use Rattle.std.proofs.Common.{◌<◌, ◌≤◌, ℕ, length}
use Rattle.ceph_plan.specs.Choice.{even_at}
use Rattle.ceph_plan.proofs.choice.coolest.Given as goal

abbrev pub invariant-loop-at : goal.invariant-loop-at
invariant-loop-at l = record {
  inside : l.best < length l.divisions;
  least : (k : ℕ) → k < l.at → even_at l.divisions l.best ≤ even_at l.divisions k;
}
