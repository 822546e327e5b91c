use Rattle.std.proofs.Common.{◌≡◌, ◌≢◌, ◌<◌, ◌≤◌, ◌∙◌, ap, arith, length, slice_index, length-set, get_or-set_same, get_or-set_other, ⊎_elim}
use Rattle.std.proofs.lemmas.List.{get_or_default}
use Rattle.std.proofs.lemmas.Bool.{cases_eq, cases_lt}
use Rattle.residual_cut.specs.Subtrees.{limit_of}
use Rattle.residual_cut.proofs.HotLemmas.{restored_more}
use Rattle.residual_cut.proofs.subtrees.restore.Goals as goal

pub loop-k-preserved : goal.loop-k-preserved
loop-k-preserved c =
    let trees = c.args.of.trees.now in
    let k = c.loop-k.k in
    let size : c.loop-k.k < length c.args.of.trees.now.hot.items = omega arith in
    let row = c.hot_row-i.ensures.row in
    let inside = c.args.of.can_probe.trees_are.hot.inside k size in
    let heat : c.index.result.now ≡ slice_index c.args.of.trees.now.heat.items (slice_index c.args.of.trees.now.hot.items c.loop-k.k) =
    c.index.ensures
    ∙ get_or_default c.args.of.trees.now.heat.items c.hot_row-i.result c.index.result.now 0 (omega (arith, row, inside, c.args.of.can_probe.trees_are.size))
    ∙ ap (slice_index c.args.of.trees.now.heat.items) row in
    let more = restored_more (length c.args.of.rows.now) (slice_index c.args.of.trees.now.heat.items) c.args.of.trees.now.low k
    c.args.of.trees.now.hot.items c.loop-k.rest c.args.of.can_probe.trees_are.hot size c.loop-k.invariant.room c.loop-k.invariant.light
    c.loop-k.invariant.done in
    record {
      room = length-set c.loop-k.rest c.hot_row-i.result c.index.result.now ∙ c.loop-k.invariant.room;
      light = rw (heat, row) more.0;
      done = rw (heat, row) more.1;
    }

pub returns-clause-whole : goal.returns-clause-whole
returns-clause-whole c =
    let last : c.loop-k.k ≡ length c.args.of.trees.now.hot.items = omega arith in
    let read : c.index-2.result.now ≡ slice_index c.args.of.trees.now.heat.items 0 =
    c.index-2.ensures
    ∙ get_or_default c.args.of.trees.now.heat.items 0 c.index-2.result.now 0 (omega (arith, c.args.of.can_probe.some, c.args.of.can_probe.trees_are.size)) in
    λ v l.
    ⊎_elim
    (λ (root : v ≡ 0).
    rw root (get_or-set_same c.loop-k.rest 0 c.index-2.result.now 0 (omega (arith, c.args.of.can_probe.some, c.loop-k.invariant.room)) ∙ read))
    (λ (other : v ≢ 0).
    get_or-set_other c.loop-k.rest 0 v c.index-2.result.now 0 other
    ∙ ⊎_elim
    (λ (below : v < limit_of (length c.args.of.rows.now) c.args.of.trees.now.hot.items c.loop-k.k).
    c.loop-k.invariant.light v l
    (c.args.of.can_probe.trees_are.hot.light c.loop-k.k v (omega (arith, last)) (omega arith) below (λ more. absurd (omega (arith, last)))))
    (λ (beyond : limit_of (length c.args.of.rows.now) c.args.of.trees.now.hot.items c.loop-k.k ≤ v).
    c.loop-k.invariant.done v (omega arith) l beyond)
    (cases_lt v (limit_of (length c.args.of.rows.now) c.args.of.trees.now.hot.items c.loop-k.k)))
    (cases_eq v 0)
