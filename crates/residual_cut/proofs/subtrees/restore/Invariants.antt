use Rattle.std.proofs.Common.{◌≡◌, ◌<◌, ◌≤◌, ℕ, length, slice_index}
use Rattle.residual_cut.specs.Subtrees.{limit_of, AreLightWhole}
use Rattle.residual_cut.proofs.subtrees.restore.Given as goal

abbrev pub invariant-loop-k : goal.invariant-loop-k
invariant-loop-k l = record {
  room : length l.rest ≡ length l.of.rows.now;
  light : AreLightWhole (length l.of.rows.now) l.of.trees.now.low (slice_index l.of.trees.now.heat.items) (slice_index l.rest);
  done : (v : ℕ) → 0 < v → v < length l.of.rows.now → limit_of (length l.of.rows.now) l.of.trees.now.hot.items l.k ≤ v
      → slice_index l.rest v ≡ slice_index l.of.trees.now.heat.items v;
}
