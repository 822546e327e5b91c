use Rattle.ceph_plan.specs.Asked.{ArePinRows}
use Rattle.ceph_plan.proofs.candidate.pin_rows.Given as goal

abbrev pub invariant-loop-i : goal.invariant-loop-i
invariant-loop-i l = ArePinRows l.rows l.part l.rank l.own l.i l.rests l.found.items
