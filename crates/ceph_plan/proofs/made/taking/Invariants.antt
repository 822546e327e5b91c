use Rattle.std.proofs.Common.{◌≡◌, ◌<◌, ◌↔◌, ℕ, true, false, length, get_or}
use Rattle.ceph_plan.specs.MadeHours.{MayTake}
use Rattle.ceph_plan.proofs.made.taking.Given as goal

-- the rows before this one are known
abbrev pub invariant-loop-i : goal.invariant-loop-i
invariant-loop-i l = record {
  size : length l.found.items ≡ l.i;
  each : (d : ℕ) → d < l.i → get_or l.found.items d false ≡ true ↔ ((get_or l.free d false ≡ true) × MayTake l.rows l.now.heats.items d);
}
