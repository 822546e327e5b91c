use Rattle.std.proofs.Common.{◌≡◌, ◌+◌, ◌-◌, ℕ, arith, length, slice_index, subst}
use Rattle.residual_cut.specs.Subtrees.{AreHot}
use Rattle.residual_cut.proofs.HotLemmas.{hot_listed, hot_passed}
use Rattle.residual_cut.proofs.subtrees.hot_rows.Goals as goal

pub loop-i-preserved : goal.loop-i-preserved
loop-i-preserved c =
    let i = c.loop-i.i - 1 in
    let next : c.loop-i.i ≡ i + 1 = omega arith in
    let P : ℕ → Type 0 = λ m. AreHot (length c.args.heat.now) (slice_index c.args.heat.now) c.args.low m c.loop-i.hot.items in
    record {
      high = omega (arith, c.loop-i.invariant.high);
      some = λ some. omega arith;
      hot = rw c.in_ok-push.ensures.items
          (hot_listed (length c.args.heat.now) (slice_index c.args.heat.now) c.args.low i c.loop-i.hot.items
          (omega (arith, c.loop-i.invariant.high)) (omega arith) (subst P next c.loop-i.invariant.hot));
    }

pub loop-i-preserved-then-heat-i : goal.loop-i-preserved-then-heat-i
loop-i-preserved-then-heat-i c =
    let i = c.loop-i.i - 1 in
    let next : c.loop-i.i ≡ i + 1 = omega arith in
    let P : ℕ → Type 0 = λ m. AreHot (length c.args.heat.now) (slice_index c.args.heat.now) c.args.low m c.loop-i.hot.items in
    record {
      high = omega (arith, c.loop-i.invariant.high);
      some = λ some. omega arith;
      hot = hot_passed (length c.args.heat.now) (slice_index c.args.heat.now) c.args.low i c.loop-i.hot.items (omega arith)
          (subst P next c.loop-i.invariant.hot);
    }
