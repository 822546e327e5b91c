use Rattle.std.proofs.Common.{◌≡◌, ◌<◌, ℕ, length, slice_index}
use Rattle.ceph_plan.specs.Shares.{share_of}
use Rattle.ceph_plan.proofs.shares.shares_of.Given as goal

abbrev pub invariant-loop-heat : goal.invariant-loop-heat
invariant-loop-heat l = record {
  size : length l.found.items ≡ l.heat-index;
  shares : (i : ℕ) → i < l.heat-index → slice_index l.found.items i ≡ share_of l.scale l.bound (slice_index l.heats i);
}
