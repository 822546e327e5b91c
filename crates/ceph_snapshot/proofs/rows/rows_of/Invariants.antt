use Rattle.ceph_snapshot.specs.Rows.{AreRowsOf}
use Rattle.ceph_snapshot.proofs.rows.rows_of.Given as goal

abbrev pub invariant-loop-at : goal.invariant-loop-at
invariant-loop-at l = AreRowsOf l.directories l.holds l.at l.rows.items
