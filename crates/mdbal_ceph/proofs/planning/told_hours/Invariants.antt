use Rattle.std.proofs.Common.{◌≡◌, ℕ, Some, length, map}
use Rattle.std.specs.Prelude.{slice_get}
use Rattle.ceph_report.specs.declared.hours.PlannedHour.{PlannedHour}
use Rattle.mdbal_ceph.specs.Hours.{IsToldHour}
use Rattle.mdbal_ceph.proofs.planning.told_hours.Given as goal

abbrev pub invariant-loop-k : goal.invariant-loop-k
invariant-loop-k l =
    record {
      size : length l.hours.items ≡ l.k;
      each : (k : ℕ) (hour : PlannedHour) → slice_get l.hours.items k ≡ Some hour
          → IsToldHour (map (λ name. name.now) l.names) l.directories l.chosen l.made l.found k hour;
    }
