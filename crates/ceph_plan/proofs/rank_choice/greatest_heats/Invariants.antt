use Rattle.std.proofs.Common.{◌≡◌, ◌<◌, ℕ, length, slice_index}
use Rattle.ceph_plan.specs.Packing.{heat_in, worst}
use Rattle.ceph_plan.proofs.rank_choice.greatest_heats.Given as goal

abbrev pub invariant-loop-part : goal.invariant-loop-part
invariant-loop-part l = record {
  size : length l.heats.items ≡ l.part;
  greatest : (p : ℕ) → p < l.part → slice_index l.heats.items p ≡ worst l.hours (λ h. heat_in l.hours h p);
}
