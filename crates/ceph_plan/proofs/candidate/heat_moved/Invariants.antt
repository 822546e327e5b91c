use Rattle.std.proofs.Common.{◌≡◌, ◌≤◌, ◌*◌, ◌^◌}
use Rattle.ceph_plan.specs.Candidates.{moved_heat}
use Rattle.ceph_plan.proofs.candidate.heat_moved.Given as goal

abbrev pub invariant-loop-i : goal.invariant-loop-i
invariant-loop-i l = record {
  moved : l.moved ≡ moved_heat l.rows l.part l.rank l.i;
  small : l.moved ≤ l.i * 2 ^ 40;
}
