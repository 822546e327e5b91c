use Rattle.ceph_plan.specs.Candidates.{AreLeft}
use Rattle.ceph_plan.proofs.candidate.keeps_left.Given as goal

abbrev pub invariant-loop-i : goal.invariant-loop-i
invariant-loop-i l = AreLeft l.rows l.own l.part l.rank l.i
