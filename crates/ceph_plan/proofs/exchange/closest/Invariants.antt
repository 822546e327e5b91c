use Rattle.std.proofs.Common.{◌≤◌, ◌+◌, ◌-◌, length}
use Rattle.ceph_plan.proofs.exchange.closest.Given as goal

abbrev pub invariant-loop-i : goal.invariant-loop-i
invariant-loop-i l = record {
  hot : l.i ≤ length l.hot;
  cold : l.j ≤ length l.cold;
}

abbrev pub decreases-loop-i : goal.decreases-loop-i
decreases-loop-i l = length l.hot - l.i + (length l.cold - l.j)
