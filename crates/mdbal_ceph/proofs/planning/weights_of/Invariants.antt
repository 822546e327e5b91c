use Rattle.std.proofs.Common.{◌≡◌, ◌<◌, ℕ, length, slice_index}
use Rattle.mdbal_ceph.specs.Hours.{hour_weight}
use Rattle.mdbal_ceph.proofs.planning.weights_of.Given as goal

abbrev pub invariant-loop-k : goal.invariant-loop-k
invariant-loop-k l =
    record { size : length l.weights.items ≡ l.k; each : (i : ℕ) → i < l.k → slice_index l.weights.items i ≡ hour_weight l.seen i }
