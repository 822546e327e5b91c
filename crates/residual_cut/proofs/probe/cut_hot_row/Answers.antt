use Rattle.std.proofs.Common.{◌≡◌, ◌∙◌, ◌-◌, arith, rules, length, slice_index, get_or-set_same, get_or-set_other, length-set, ℕ}
use Rattle.std.specs.BinaryHeap.{heap_items, heap_len}
use Rattle.mds_types.specs.CutTable.{rest_at, is_cut_at}
use Rattle.residual_cut.proofs.HeapLemmas.{IsPopped}
use Rattle.residual_cut.proofs.ProbeLemmas.{cutting_start, cutting_step, cutting_popped, cutting_empty}
use Rattle.residual_cut.proofs.probe.cut_hot_row.Goals as goal

pub loop-init : goal.loop-init
loop-init c = record {
  room = c.requires.size;
  cutting = (let all : c.args.of.ranks - c.args.seen.now.cuts - 0 ≡ c.args.of.ranks - c.args.seen.now.cuts = omega arith in
      rw all (cutting_start c.args.of.rows.now (slice_index c.args.of.trees.now.heat.items) (slice_index c.args.rest.now) c.args.bound c.args.i
      (c.args.of.ranks - c.args.seen.now.cuts) c.in_ok-hottest.hottest.floor c.args.seen.now c.in_ok-hottest.hottest.children.items
      (heap_items c.from-heap.result) c.args.of.can_probe.forest c.requires.probed c.in_ok-hottest.ensures (search rules)));
  order = search rules;
  count = omega arith;
  left = omega (arith, c.requires.few);
}

pub returns-in_default-clause-done : goal.returns-in_default-clause-done
returns-in_default-clause-done c =
    let size : length (heap_items c.loop.heap) ≡ heap_len c.loop.heap = search rules in
    λ _. cutting_empty c.args.of.rows.now (slice_index c.args.of.trees.now.heat.items) (slice_index c.loop.rest) c.args.bound c.args.i
    (c.args.of.ranks - c.args.seen.now.cuts - c.loop.counter) c.loop.seen (heap_items c.loop.heap) c.args.of.can_probe.forest c.requires.inside
    (omega (arith, c.args.of.can_probe.cool c.args.i c.requires.inside, c.requires.low)) c.loop.invariant.cutting
    (size ∙ c.in_default.ensures.none) (omega arith)

pub loop-preserved : goal.loop-preserved
loop-preserved c =
    let heat : ℕ → ℕ = slice_index c.args.of.trees.now.heat.items in
    let i = c.args.i in
    let most = c.args.of.ranks - c.args.seen.now.cuts - c.loop.counter in
    let pop : IsPopped c.args.of.rows.now (rest_at c.loop.invariant.cutting.probed.table) (is_cut_at c.loop.invariant.cutting.probed.table)
    c.args.i c.in-Some.child =
    cutting_popped c.args.of.rows.now heat (slice_index c.loop.rest) c.args.bound i most c.loop.seen (heap_items c.loop.heap)
    (heap_items c.pop.new.self) c.in-Some.child c.loop.invariant.cutting c.in-Some.ensures.permutation
    (c.in-Some.ensures.heap_order c.loop.invariant.order).1 in
    record {
      room = length-set c.loop.rest i _ ∙ c.loop.invariant.room;
      cutting = cutting_step c.args.of.rows.now heat (slice_index c.loop.rest) _ c.args.bound i most _ c.loop.seen c.with_cut.result
          (heap_items c.loop.heap) (heap_items c.pop.new.self) c.in-Some.child c.args.of.can_probe.forest c.requires.inside
          c.loop.invariant.cutting (omega arith) pop
          (get_or-set_same c.loop.rest i _ 0 (omega (arith, c.loop.invariant.room, c.requires.inside)))
          (λ v apart. get_or-set_other c.loop.rest i v _ 0 apart) c.with_cut.ensures (omega arith) c.in-Some.ensures.permutation;
      order = (c.in-Some.ensures.heap_order c.loop.invariant.order).0;
      count = omega (arith, c.with_cut.ensures.cuts, c.loop.invariant.count);
      left = c.loop.invariant.left;
    }
