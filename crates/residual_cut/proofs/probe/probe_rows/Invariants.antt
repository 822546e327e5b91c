use Rattle.std.proofs.Common.{◌≡◌, ◌<◌, length, slice_index}
use Rattle.residual_cut.specs.Probing.{IsProbed}
use Rattle.residual_cut.specs.Subtrees.{limit_of}
use Rattle.residual_cut.proofs.probe.probe_rows.Given as goal

abbrev pub invariant-loop-k : goal.invariant-loop-k
invariant-loop-k l = record {
  room : length l.rest ≡ length l.of.rows.now;
  known : l.known.rest ≡ slice_index l.rest l.known.row;
  few : l.seen.cuts < l.of.ranks;
  probed : IsProbed l.of.rows.now (slice_index l.of.trees.now.heat.items) (slice_index l.rest) l.bound
      (limit_of (length l.of.rows.now) l.of.trees.now.hot.items l.k) (limit_of (length l.of.rows.now) l.of.trees.now.hot.items l.k) l.seen;
}
