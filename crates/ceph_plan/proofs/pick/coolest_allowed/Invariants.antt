use Rattle.std.proofs.Common.{◌<◌, ◌≤◌, ℕ, length}
use Rattle.ceph_plan.specs.Candidates.{IsAllowed, greatest_at}
use Rattle.ceph_plan.proofs.pick.coolest_allowed.Given as goal

-- of those so far that have few enough pins, none is cooler than the best
abbrev pub invariant-loop-at : goal.invariant-loop-at
invariant-loop-at l = record {
  size : l.best ≤ length l.candidates;
  few : l.best < length l.candidates → IsAllowed l.wanted l.candidates l.best;
  coolest : (v : ℕ) → v < l.at → IsAllowed l.wanted l.candidates v
      → (l.best < length l.candidates) × (greatest_at l.candidates l.best ≤ greatest_at l.candidates v);
}
