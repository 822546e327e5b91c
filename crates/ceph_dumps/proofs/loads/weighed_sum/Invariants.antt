use Rattle.std.proofs.Common.{◌≡◌, drop}
use Rattle.std.specs.Float.{float_zero}
use Rattle.ceph_dumps.specs.Loads.{weighed_sum}
use Rattle.ceph_dumps.proofs.loads.weighed_sum.Given as goal

abbrev pub invariant-loop-at : goal.invariant-loop-at
invariant-loop-at l =
    weighed_sum float_zero l.counters l.weights ≡ weighed_sum l.sum (drop l.at l.counters) (drop l.at l.weights)
