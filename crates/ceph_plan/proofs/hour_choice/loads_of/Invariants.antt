use Rattle.std.proofs.Common.{◌≡◌, ◌<◌, ℕ, length, slice_index}
use Rattle.ceph_plan.specs.ChosenHours.{load_in_hour}
use Rattle.ceph_plan.proofs.hour_choice.loads_of.Given as goal

abbrev pub invariant-loop-hour : goal.invariant-loop-hour
invariant-loop-hour l = record {
  size : length l.loads.items ≡ l.hour-index;
  loads : (h : ℕ) → h < l.hour-index → slice_index l.loads.items h ≡ load_in_hour l.ranks l.hours h;
}
