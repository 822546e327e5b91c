use Rattle.std.proofs.Common.{◌≡◌, ◌<◌, ◌≤◌, ◌⊎◌, ℕ, length, slice_index}
use Rattle.ceph_plan.specs.MadeHours.{IsLarge, IsWarm, free_children}
use Rattle.ceph_plan.proofs.made.worth.Given as goal

-- the rows before this one are done
abbrev pub invariant-loop-i : goal.invariant-loop-i
invariant-loop-i l = record {
  size : length l.worth.items ≡ length l.rows;
  done : (d : ℕ) → d < l.i → ((IsWarm l.rows l.now.heats.items d ⊎ IsLarge l.rows d) × (slice_index l.worth.items d ≡ free_children l.rows l.free d))
      ⊎ (¬ (IsWarm l.rows l.now.heats.items d ⊎ IsLarge l.rows d) × (slice_index l.worth.items d ≡ 0));
  left : (d : ℕ) → l.i ≤ d → d < length l.rows → slice_index l.worth.items d ≡ free_children l.rows l.free d;
}
