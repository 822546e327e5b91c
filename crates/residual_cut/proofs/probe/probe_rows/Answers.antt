use Rattle.std.proofs.Common.{◌≡◌, ◌∙◌, ◌+◌, sym, arith, rules, length, slice_index, refl, subst, ℕ}
use Rattle.mds_types.specs.Problem.{parent_at}
use Rattle.residual_cut.specs.Probing.{IsProbed}
use Rattle.residual_cut.specs.Subtrees.{limit_of}
use Rattle.residual_cut.proofs.HotLemmas.{limit_first, limit_next}
use Rattle.residual_cut.proofs.ProbeLemmas.{probed_start, probed_given, probed_to, probed_to_root, probed_more, probed_end, enough_left}
use Rattle.residual_cut.proofs.probe.probe_rows.Goals as goal

pub loop-k-init : goal.loop-k-init
loop-k-init c =
    let P : ℕ → Type 0 = λ m. IsProbed c.args.of.rows.now (slice_index c.args.of.trees.now.heat.items) (slice_index c.args.rest.now) c.args.bound m m
    (record { cuts = 0; above = 18446744073709551615; hottest = 0 }) in
    record {
      room = c.requires.room;
      known = refl;
      few = c.args.of.can_probe.ranked;
      probed = subst P (sym (limit_first (length c.args.of.rows.now) c.args.of.trees.now.hot.items 0 refl))
          (probed_start c.args.of.rows.now (slice_index c.args.of.trees.now.heat.items) (slice_index c.args.rest.now) c.args.bound _
          c.args.of.can_probe.forest c.args.of.can_probe.trees_are.sums c.requires.whole refl (omega arith) refl);
    }

pub cut_row-requires-clause-probing : goal.cut_row-requires-clause-probing
cut_row-requires-clause-probing c =
    let probed = probed_to c.args.of.rows.now (slice_index c.args.of.trees.now.heat.items) (slice_index c.loop-k.rest) c.args.bound
    c.args.of.trees.now.low c.loop-k.k c.args.of.trees.now.hot.items c.loop-k.seen c.args.of.can_probe.forest
    c.args.of.can_probe.trees_are.sums c.args.of.can_probe.trees_are.hot c.requires.low (omega arith) c.loop-k.invariant.probed in
    let inside = c.hot_row-i.ensures.inside in rw c.hot_row-i.ensures.row (search (rules, probed, inside))

pub returns-then-seen-of-clause-more : goal.returns-then-seen-of-clause-more
returns-then-seen-of-clause-more c =
    λ many.
    (probed_more c.args.of.rows.now (slice_index c.args.of.trees.now.heat.items) (slice_index c.cut_row.new.rest) c.args.bound c.hot_row-i.result
    c.args.of.ranks c.cut_row.new.seen c.args.of.can_probe.forest c.hot_row-i.ensures.inside c.args.of.can_probe.ranked many c.in_ok-left.ensures.probed).1

pub take_from_parent-known-requires-clause-less : goal.take_from_parent-known-requires-clause-less
take_from_parent-known-requires-clause-less c = c.in_ok-left.ensures.probed.less c.hot_row-i.result c.hot_row-i.ensures.inside

pub take_from_parent-known-requires-clause-enough : goal.take_from_parent-known-requires-clause-enough
take_from_parent-known-requires-clause-enough c =
    enough_left c.args.of.rows.now (slice_index c.args.of.trees.now.heat.items) (slice_index c.cut_row.new.rest) c.args.bound c.hot_row-i.result
    (parent_at c.args.of.rows.now c.hot_row-i.result) c.cut_row.new.seen c.args.of.can_probe.forest c.hot_row-i.ensures.inside
    c.hot_row-i.ensures.deep refl c.in_ok-left.ensures.probed

pub loop-k-preserved : goal.loop-k-preserved
loop-k-preserved c =
    let i = c.hot_row-i.result in
    let next : limit_of (length c.args.of.rows.now) c.args.of.trees.now.hot.items (c.loop-k.k + 1) ≡ c.hot_row-i.result =
    limit_next (length c.args.of.rows.now) c.args.of.trees.now.hot.items c.loop-k.k ∙ sym c.hot_row-i.ensures.row in
    record {
      room = c.take_from_parent-known.ensures.room;
      known = c.take_from_parent-known.ensures.known;
      few = omega arith;
      probed = rw next
          (probed_given c.args.of.rows.now c.args.of.can_probe.forest (slice_index c.args.of.trees.now.heat.items) (slice_index c.cut_row.new.rest)
          (slice_index c.take_from_parent-known.new.rest) c.args.bound i (parent_at c.args.of.rows.now c.hot_row-i.result) c.cut_row.new.seen
          c.args.of.can_probe.trees_are.sums c.hot_row-i.ensures.inside c.hot_row-i.ensures.deep refl (c.in_ok-left.ensures.done (omega arith))
          c.in_ok-left.ensures.probed c.take_from_parent-known.ensures.here c.take_from_parent-known.ensures.other);
    }

pub cut_row-requires-2-clause-probing : goal.cut_row-requires-2-clause-probing
cut_row-requires-2-clause-probing c =
    let last : c.loop-k.k ≡ length c.args.of.trees.now.hot.items = omega arith in
    let P : ℕ → Type 0 = λ k. IsProbed c.args.of.rows.now (slice_index c.args.of.trees.now.heat.items) (slice_index c.loop-k.rest) c.args.bound
    (limit_of (length c.args.of.rows.now) c.args.of.trees.now.hot.items k)
    (limit_of (length c.args.of.rows.now) c.args.of.trees.now.hot.items k) c.loop-k.seen in
    let probed = probed_to_root c.args.of.rows.now (slice_index c.args.of.trees.now.heat.items) (slice_index c.loop-k.rest) c.args.bound
    c.args.of.trees.now.low c.args.of.trees.now.hot.items c.loop-k.seen c.args.of.can_probe.forest c.args.of.can_probe.trees_are.sums
    c.args.of.can_probe.trees_are.hot c.requires.low c.args.of.can_probe.some (subst P last c.loop-k.invariant.probed) in
    search (rules, probed)

pub returns-clause-few : goal.returns-clause-few
returns-clause-few c =
    λ few. (probed_end c.args.of.rows.now (slice_index c.args.of.trees.now.heat.items) (slice_index c.cut_row-2.new.rest) c.args.bound c.args.of.ranks
    c.cut_row-2.new.seen c.args.of.can_probe.forest c.args.of.can_probe.some
    (λ v l. omega (arith, c.args.of.can_probe.cool v l, c.requires.low)) (c.in_ok-cut_row.ensures.done few) few
    c.in_ok-cut_row.ensures.probed).0

pub returns-clause-more : goal.returns-clause-more
returns-clause-more c =
    λ many.
    (probed_more c.args.of.rows.now (slice_index c.args.of.trees.now.heat.items) (slice_index c.cut_row-2.new.rest) c.args.bound 0 c.args.of.ranks
    c.cut_row-2.new.seen c.args.of.can_probe.forest c.args.of.can_probe.some c.args.of.can_probe.ranked many c.in_ok-cut_row.ensures.probed).1
