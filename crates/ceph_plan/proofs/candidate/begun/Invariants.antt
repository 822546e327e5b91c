use Rattle.ceph_plan.specs.Candidates.{AreBegun}
use Rattle.ceph_plan.proofs.candidate.begun.Given as goal

abbrev pub invariant-loop-first : goal.invariant-loop-first
invariant-loop-first l = AreBegun l.of.ranks l.of.hours.now l.of.rows.now l.own l.wanted.rests l.found.items
