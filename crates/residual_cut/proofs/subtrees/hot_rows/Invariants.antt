use Rattle.std.proofs.Common.{◌<◌, ◌≤◌, length, slice_index}
use Rattle.residual_cut.specs.Subtrees.{AreHot}
use Rattle.residual_cut.proofs.subtrees.hot_rows.Given as goal

abbrev pub invariant-loop-i : goal.invariant-loop-i
invariant-loop-i l = record {
  high : l.i ≤ length l.heat;
  some : 0 < length l.heat → 0 < l.i;
  hot : AreHot (length l.heat) (slice_index l.heat) l.low l.i l.hot.items;
}
