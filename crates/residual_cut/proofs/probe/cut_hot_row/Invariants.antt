use Rattle.std.proofs.Common.{◌≡◌, ◌+◌, ◌-◌, length, slice_index}
use Rattle.std.specs.BinaryHeap.{heap_items, IsHeap}
use Rattle.residual_cut.proofs.HeapLemmas.{child_cmp}
use Rattle.residual_cut.proofs.ProbeLemmas.{IsCutting}
use Rattle.residual_cut.proofs.probe.cut_hot_row.Given as goal

abbrev pub invariant-loop : goal.invariant-loop
invariant-loop l = record {
  room : length l.rest ≡ length l.of.rows.now;
  cutting : IsCutting l.of.rows.now (slice_index l.of.trees.now.heat.items) (slice_index l.rest) l.bound l.i (l.left - l.counter) l.seen (heap_items l.heap);
  order : IsHeap child_cmp (heap_items l.heap);
  count : l.seen.cuts ≡ l.fn.seen.cuts + l.counter;
  left : l.left + l.fn.seen.cuts ≡ l.of.ranks;
}
