use Rattle.std.proofs.Common.{◌≡◌, ◌<◌, ◌+◌, ℕ, Bool, List, Option, false, length, slice_get, slice_index, ap, sym, ◌∙◌, subst, arith}
use Rattle.std.specs.Option.{option_map}
use Rattle.ceph_snapshot.specs.declared.directory.Directory.{Directory}
use Rattle.ceph_folding.specs.Folding.{kept_below, put_together, with_amounts}
use Rattle.ceph_snapshot.specs.Holding.{is_marked}
use Rattle.ceph_folding.proofs.Folds.{kept_more, kept_same, put_more, put_same}
use Rattle.ceph_folding.proofs.folding.close_up.Goals as goal
use Rattle.ceph_folding.proofs.folding.close_up.Goals.{then-not-gone-at, else-not-gone-at}

pub loop-at-preserved : goal.loop-at-preserved
loop-at-preserved c =
    let gone : List Bool = c.args.gone.now in
    let old : List Directory = c.args.directories.now in
    let before : List Directory = c.loop-at.directories in
    let at : ℕ = c.loop-at.at in
    let kept : ℕ = c.loop-at.kept in
    elim c.if-not-gone-at.branch [
      | then-not-gone-at w ↦
          let after : List Directory = w.put.new.directories in
          let here : slice_get after kept ≡ put_together old c.args.parents.now c.args.heats.now c.args.writes.now c.args.inodes.now at =
          w.put.ensures.there ∙ ap (λ (o : Option Directory). option_map
          (with_amounts (slice_index c.args.parents.now at) (slice_index c.args.heats.now at) (slice_index c.args.writes.now at)
          (slice_index c.args.inodes.now at)) o) (c.loop-at.invariant.behind at (omega arith)) in
          let keeps : is_marked gone at ≡ false = w.if-not-gone-at.true in
          let whole : (i : ℕ) → i < at + 1 → is_marked gone i ≡ false
          → slice_get after (kept_below (is_marked gone) i) ≡ put_together old c.args.parents.now c.args.heats.now c.args.writes.now
          c.args.inodes.now i =
          put_more old before after gone c.args.parents.now c.args.heats.now c.args.writes.now c.args.inodes.now at kept keeps
          c.loop-at.invariant.count c.loop-at.invariant.kept w.put.ensures.before here in
          record {
            size = ap length w.directories-is ∙ (w.put.ensures.size ∙ c.loop-at.invariant.size);
            count = w.kept-is ∙ (ap (λ (n : ℕ). n + 1) c.loop-at.invariant.count ∙ sym (kept_more (is_marked gone) at keeps));
            few = omega (arith, w.kept-is, c.loop-at.invariant.few);
            behind = λ i l. ap (λ (ds : List Directory). slice_get ds i) w.directories-is
                ∙ (w.put.ensures.behind i (omega (arith, l)) ∙ c.loop-at.invariant.behind i (omega (arith, l)));
            kept = subst (λ (ds : List Directory). (i : ℕ) → i < at + 1 → is_marked gone i ≡ false
                → slice_get ds (kept_below (is_marked gone) i) ≡ put_together old c.args.parents.now c.args.heats.now c.args.writes.now
                c.args.inodes.now i) (sym w.directories-is) whole;
          }
      | else-not-gone-at w ↦
          let whole : (i : ℕ) → i < at + 1 → is_marked gone i ≡ false
          → slice_get before (kept_below (is_marked gone) i)
          ≡ put_together old c.args.parents.now c.args.heats.now c.args.writes.now c.args.inodes.now i =
          put_same old before gone c.args.parents.now c.args.heats.now c.args.writes.now c.args.inodes.now at w.if-not-gone-at.false c.loop-at.invariant.kept in
          record {
            size = ap length w.directories-is ∙ c.loop-at.invariant.size;
            count = w.kept-is ∙ (c.loop-at.invariant.count ∙ sym (kept_same (is_marked gone) at w.if-not-gone-at.false));
            few = omega (arith, w.kept-is, c.loop-at.invariant.few);
            behind = λ i l. ap (λ (ds : List Directory). slice_get ds i) w.directories-is ∙ c.loop-at.invariant.behind i (omega (arith, l));
            kept = subst (λ (ds : List Directory). (i : ℕ) → i < at + 1 → is_marked gone i ≡ false
                → slice_get ds (kept_below (is_marked gone) i) ≡ put_together old c.args.parents.now c.args.heats.now c.args.writes.now
                c.args.inodes.now i) (sym w.directories-is) whole;
          }
    ]
