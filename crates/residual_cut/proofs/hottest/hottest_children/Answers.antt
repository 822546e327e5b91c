use Rattle.std.proofs.Common.{◌≡◌, ◌<◌, ◌≤◌, ◌∙◌, arith, slice_index, refl, ⊎_elim}
use Rattle.std.proofs.lemmas.List.{get_or_default}
use Rattle.std.proofs.lemmas.Bool.{cases_lt}
use Rattle.residual_cut.specs.Links.{IsNextChild}
use Rattle.residual_cut.proofs.HeapLemmas.{is_before}
use Rattle.residual_cut.proofs.HottestLemmas.{hottest_none, hottest_more, next_before, not_yet, from_now}
use Rattle.residual_cut.proofs.WalkLemmas.{child_above, child_parent}
use Rattle.residual_cut.proofs.hottest.hottest_children.Goals as goal

pub loop-row-init : goal.loop-row-init
loop-row-init c =
    let read : c.index-row.result.now ≡ slice_index c.args.of.trees.now.links.first.items c.args.i =
    c.index-row.ensures
    ∙ get_or_default c.args.of.trees.now.links.first.items c.args.i c.index-row.result.now 0
    (omega (arith, c.args.of.can_probe.trees_are.linked.first_size, c.requires.inside)) in
    let next : IsNextChild c.args.of.rows.now c.args.i 0 c.index-row.result.now =
    rw read (c.args.of.can_probe.trees_are.linked.children c.args.i c.requires.inside) in
    record {
      are = rw c.new.ensures.items (hottest_none c.args.of.rows.now (slice_index c.args.rest.now) c.args.i c.index-row.result.now c.args.most next);
      full = λ some. absurd (omega arith);
      inside =
          ⊎_elim (λ (more : 0 < c.index-row.result.now). next.inside more)
          (λ (none : c.index-row.result.now ≤ 0). omega (arith, c.requires.inside))
          (cases_lt 0 c.index-row.result.now);
      child = next.child;
    }

pub loop-row-preserved : goal.loop-row-preserved
loop-row-preserved c =
    let rows = c.args.of.rows.now in
    let k = c.loop-row.row in
    let some : 0 < c.loop-row.row = omega arith in
    let child = c.loop-row.invariant.child some in
    let read : c.index-row-in-loop-row.result.now ≡ slice_index c.args.of.trees.now.links.next.items c.loop-row.row =
    c.index-row-in-loop-row.ensures
    ∙ get_or_default c.args.of.trees.now.links.next.items c.loop-row.row c.index-row-in-loop-row.result.now 0
    (omega (arith, c.args.of.can_probe.trees_are.linked.next_size, c.loop-row.invariant.inside)) in
    let next : IsNextChild c.args.of.rows.now c.args.i c.loop-row.row c.index-row-in-loop-row.result.now =
    rw (read, ← child_parent c.args.of.rows.now c.args.i c.loop-row.row child)
    (c.args.of.can_probe.trees_are.linked.siblings c.loop-row.row (omega arith) some c.loop-row.invariant.inside) in
    record {
      are = hottest_more rows (slice_index c.args.rest.now) (is_before k) (is_before c.index-row-in-loop-row.result.now) c.args.i k
          c.args.most c.loop-row.hottest c.meet.new.hottest _ c.loop-row.invariant.inside child
          (child_above rows c.args.of.can_probe.forest c.args.i k c.loop-row.invariant.inside child) refl refl (not_yet k some)
          (from_now rows c.args.i k c.index-row-in-loop-row.result.now next)
          (next_before rows c.args.i k c.index-row-in-loop-row.result.now some next) c.in_ok-meet.ensures c.loop-row.invariant.are;
      full = c.in_ok-meet.ensures.kept.full;
      inside =
          ⊎_elim (λ (more : 0 < c.index-row-in-loop-row.result.now). next.inside more)
          (λ (last : c.index-row-in-loop-row.result.now ≤ 0). omega (arith, c.loop-row.invariant.inside))
          (cases_lt 0 c.index-row-in-loop-row.result.now);
      child = next.child;
    }
