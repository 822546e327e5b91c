use Rattle.std.proofs.Common.{◌≡◌, ◌+◌, ◌-◌, ℕ, length}
use Rattle.std.specs.BinaryHeap.{heap_items, IsHeap}
use Rattle.mds_types.specs.CutTable.{rest_at, is_cut_at}
use Rattle.mds_types.specs.Sums.{count_below}
use Rattle.residual_cut.specs.Heap.{is_free}
use Rattle.residual_cut.specs.Hottest.{AreHottest}
use Rattle.residual_cut.specs.Walk.{IsWalked}
use Rattle.residual_cut.proofs.HeapLemmas.{child_cmp}
use Rattle.residual_cut.proofs.detach.cut_some.Given as goal

abbrev pub invariant-loop-cut : goal.invariant-loop-cut
invariant-loop-cut l = record {
  walked : IsWalked l.of.rows.now l.table l.of.bound (l.i + 1) l.i;
  order : IsHeap child_cmp (heap_items l.heap);
  are : (floor : ℕ) × AreHottest l.of.rows.now (rest_at l.table) (is_free l.table) l.i (l.most - l.cut) floor (heap_items l.heap);
  counted : count_below (length l.of.rows.now) (is_cut_at l.table) ≡ count_below (length l.of.rows.now) (is_cut_at l.fn.table) + l.cut;
}
