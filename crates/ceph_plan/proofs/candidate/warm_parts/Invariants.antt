use Rattle.std.proofs.Common.{◌≡◌, ℕ, false, true, get_or, length}
use Rattle.ceph_plan.specs.Candidates.{HasLeaving}
use Rattle.ceph_plan.proofs.candidate.warm_parts.Given as goal

abbrev pub invariant-loop-i : goal.invariant-loop-i
invariant-loop-i l = record {
  size : length l.warm.items ≡ length l.rank;
  warm : (p : ℕ) → get_or l.warm.items p false ≡ true → HasLeaving l.rows l.part l.rank l.i p;
}
