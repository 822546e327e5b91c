use Rattle.std.proofs.Common.{◌≡◌, ◌<◌, ℕ, length, slice_index}
use Rattle.ceph_plan.specs.Packing.{heats_in, pinned_in}
use Rattle.ceph_plan.specs.Shares.{CountFor}
use Rattle.ceph_plan.proofs.shares.shares_by.Given as goal

abbrev pub invariant-loop-h : goal.invariant-loop-h
invariant-loop-h l = record {
  size : length l.found.items ≡ l.h;
  heats : (k : ℕ) → k < l.h → CountFor (length l.hours) (slice_index l.bounds k) (slice_index l.weights k) (heats_in l.hours k) (heats_in l.found.items k);
  pinned : (k : ℕ) → k < l.h → CountFor (length l.hours) (slice_index l.bounds k) (slice_index l.weights k) (pinned_in l.hours k) (pinned_in l.found.items k);
}
