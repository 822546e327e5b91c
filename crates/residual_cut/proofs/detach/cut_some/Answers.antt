use Rattle.std.proofs.Common.{◌≡◌, ◌∙◌, ◌<◌, ◌+◌, ◌-◌, arith, rules, length, ◌∷◌}
use Rattle.std.specs.BinaryHeap.{heap_items, heap_len}
use Rattle.std.proofs.lemmas.List.Sorted.{length_permutation}
use Rattle.mds_types.specs.CutTable.{rest_at, is_cut_at}
use Rattle.residual_cut.specs.Heap.{is_free}
use Rattle.residual_cut.proofs.HeapLemmas.{IsPopped}
use Rattle.residual_cut.proofs.HottestLemmas.{hottest_moved, hottest_popped, hottest_left, hottest_empty}
use Rattle.residual_cut.proofs.CutLemmas.{few_cuts, rest_within_row, walked_on, counted_on, own_heat, change}
use Rattle.residual_cut.proofs.WalkLemmas.{child_above}
use Rattle.residual_cut.proofs.detach.cut_some.Goals as goal

pub loop-cut-init : goal.loop-cut-init
loop-cut-init c = record {
  walked = c.requires.walked;
  order = search rules;
  are = (
    c.in_ok-hottest.hottest.floor,
    (let all : c.args.most - 0 ≡ c.args.most = omega arith in
        rw all (hottest_moved c.args.of.rows.now (rest_at c.args.table.now) (is_free c.args.table.now) c.args.i c.args.most
        c.in_ok-hottest.hottest.floor c.in_ok-hottest.hottest.children.items (heap_items c.from-heap.result) (search rules)
        c.in_ok-hottest.ensures)),
  );
  counted = omega arith;
}

pub returns-in_default-clause-done : goal.returns-in_default-clause-done
returns-in_default-clause-done c =
    let size : length (heap_items c.loop-cut.heap) ≡ heap_len c.loop-cut.heap = search rules in
    let are = c.loop-cut.invariant.are in
    λ more. omega (
      arith,
      c.args.of.can_cut.cool c.args.i c.requires.inside,
      own_heat c.args.of.rows.now c.args.of.can_cut.forest c.loop-cut.table c.args.of.bound c.args.i c.requires.inside c.loop-cut.invariant.walked
          (hottest_empty c.args.of.rows.now (rest_at c.loop-cut.table) (is_cut_at c.loop-cut.table) c.args.i (c.args.most - c.loop-cut.cut)
          are.0 (heap_items c.loop-cut.heap) are.1 (size ∙ c.in_default.ensures.none) (omega arith)),
    )

pub cut_child-requires-clause-child_inside : goal.cut_child-requires-clause-child_inside
cut_child-requires-clause-child_inside c =
    let are = c.loop-cut.invariant.are in
    let pop : IsPopped c.args.of.rows.now (rest_at c.loop-cut.table) (is_cut_at c.loop-cut.table) c.args.i c.in-Some.child =
    hottest_popped c.args.of.rows.now (rest_at c.loop-cut.table) (is_cut_at c.loop-cut.table) c.args.i (c.args.most - c.loop-cut.cut) are.0
    (heap_items c.loop-cut.heap) (heap_items c.pop.new.self) c.in-Some.child are.1 c.in-Some.ensures.permutation
    (c.in-Some.ensures.heap_order c.loop-cut.invariant.order).1 in
    omega (arith, pop.inside, c.loop-cut.invariant.walked.size)

pub cut_child-requires-clause-rest : goal.cut_child-requires-clause-rest
cut_child-requires-clause-rest c =
    let are = c.loop-cut.invariant.are in
    let pop : IsPopped c.args.of.rows.now (rest_at c.loop-cut.table) (is_cut_at c.loop-cut.table) c.args.i c.in-Some.child =
    hottest_popped c.args.of.rows.now (rest_at c.loop-cut.table) (is_cut_at c.loop-cut.table) c.args.i (c.args.most - c.loop-cut.cut) are.0
    (heap_items c.loop-cut.heap) (heap_items c.pop.new.self) c.in-Some.child are.1 c.in-Some.ensures.permutation
    (c.in-Some.ensures.heap_order c.loop-cut.invariant.order).1 in
    omega (
      arith,
      pop.rest_is,
      rest_within_row c.args.of.rows.now c.args.of.can_cut.forest c.loop-cut.table c.args.of.bound c.args.i c.requires.inside
          c.loop-cut.invariant.walked c.in-Some.child.row.0 pop.inside pop.child pop.free,
    )

pub cut_child-requires-clause-cuts : goal.cut_child-requires-clause-cuts
cut_child-requires-clause-cuts c =
    omega (
      arith,
      few_cuts c.args.of.rows.now c.loop-cut.table c.args.of.bound (c.args.i + 1) c.args.i c.args.i (omega arith)
          c.loop-cut.invariant.walked,
      c.args.of.can_cut.forest.few,
    )

pub loop-cut-preserved : goal.loop-cut-preserved
loop-cut-preserved c =
    let are = c.loop-cut.invariant.are in
    let pop : IsPopped c.args.of.rows.now (rest_at c.loop-cut.table) (is_cut_at c.loop-cut.table) c.args.i c.in-Some.child =
    hottest_popped c.args.of.rows.now (rest_at c.loop-cut.table) (is_cut_at c.loop-cut.table) c.args.i (c.args.most - c.loop-cut.cut) are.0
    (heap_items c.loop-cut.heap) (heap_items c.pop.new.self) c.in-Some.child are.1 c.in-Some.ensures.permutation
    (c.in-Some.ensures.heap_order c.loop-cut.invariant.order).1 in
    let hot : c.args.of.bound < rest_at c.loop-cut.table c.args.i = search rules in
    let changed = change c.args.of.rows.now c.args.of.can_cut.forest c.loop-cut.table c.args.of.bound c.args.i c.requires.inside
    c.loop-cut.invariant.walked c.in-Some.child pop hot c.cut_child.new.table (search rules) c.cut_child.ensures.here
    c.cut_child.ensures.child c.cut_child.ensures.other in
    let size = length_permutation (heap_items c.loop-cut.heap) (c.in-Some.child ∷ heap_items c.pop.new.self) c.in-Some.ensures.permutation in
    record {
      walked = walked_on c.args.of.rows.now c.args.of.can_cut.forest c.loop-cut.table c.args.of.bound c.args.i c.requires.inside
          c.loop-cut.invariant.walked c.in-Some.child pop hot c.cut_child.new.table (search rules) c.cut_child.ensures.here
          c.cut_child.ensures.child c.cut_child.ensures.other;
      order = (c.in-Some.ensures.heap_order c.loop-cut.invariant.order).0;
      are = (
        are.0,
        hottest_left c.args.of.rows.now (rest_at c.loop-cut.table) (rest_at c.cut_child.new.table) (is_cut_at c.loop-cut.table)
            (is_cut_at c.cut_child.new.table) c.args.i (c.args.most - c.loop-cut.cut) (c.args.most - (c.loop-cut.cut + 1)) are.0
            (heap_items c.loop-cut.heap) (heap_items c.pop.new.self) c.in-Some.child changed.rest_other changed.cut_here
            changed.cut_other pop (omega arith) (omega (arith, size)) are.1 c.in-Some.ensures.permutation
            (λ j l child same. (let up = child_above c.args.of.rows.now c.args.of.can_cut.forest c.args.i j l child in omega arith)),
      );
      counted = omega (
        arith,
        c.loop-cut.invariant.counted,
        counted_on c.args.of.rows.now c.args.of.can_cut.forest c.loop-cut.table c.args.of.bound c.args.i c.requires.inside
            c.loop-cut.invariant.walked c.in-Some.child pop hot c.cut_child.new.table (search rules) c.cut_child.ensures.here
            c.cut_child.ensures.child c.cut_child.ensures.other,
      );
    }
