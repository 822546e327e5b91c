use Rattle.std.proofs.Common.{◌≡◌, ◌<◌, ◌↔◌, ℕ, false, get_or, length, slice_index, true}
use Rattle.ceph_plan.specs.ChosenHours.{MayBeChosen}
use Rattle.ceph_plan.proofs.hour_choice.kept_hours.Given as goal

abbrev pub invariant-loop-h : goal.invariant-loop-h
invariant-loop-h l = record {
  size : length l.kept.items ≡ l.h;
  kept : (g : ℕ) → g < l.h → get_or l.kept.items g false ≡ true ↔ MayBeChosen (length l.loads) (slice_index l.loads) g;
}
