use Rattle.std.proofs.Common.{◌≡◌, ◌<◌, ◌+◌, ◌++◌, ◌∷◌, [], ◌∙◌, ℕ, Bool, Global, List, Vec, ap, false, length, refl, slice_index, subst, sym}
use Rattle.std.proofs.lemmas.List.{length_push}
use Rattle.ceph_folding.specs.Folding.{kept_below}
use Rattle.ceph_snapshot.specs.Holding.{is_marked}
use Rattle.ceph_folding.proofs.Folds.{kept_more, kept_same}
use Rattle.ceph_folding.proofs.FoldedHours.{keep_more, keep_same}
use Rattle.ceph_folding.proofs.hours.kept_heats.Goals as goal
use Rattle.ceph_folding.proofs.hours.kept_heats.Goals.{then-not-gone-at+in_ok-push, else-not-gone-at}

pub loop-at-preserved : goal.loop-at-preserved
loop-at-preserved c =
    let gone : List Bool = c.args.gone.now in
    let heats : List ℕ = c.args.heats.now in
    let kept : List ℕ = c.loop-at.kept.items in
    let at : ℕ = c.loop-at.at in
    elim c.if-not-gone-at.branch [
      | then-not-gone-at+in_ok-push w ↦
          let keeps : is_marked gone at ≡ false = w.if-not-gone-at.true in
          let pushed : c.if-not-gone-at.kept.items ≡ kept ++ slice_index heats at ∷ [] = ap (λ (v : Vec ℕ Global). v.items) w.kept-is
          ∙ w.in_ok-push.ensures.items in
          record {
            size = ap length pushed ∙ (length_push kept (slice_index heats at)
                ∙ (ap (λ (n : ℕ). n + 1) c.loop-at.invariant.size ∙ sym (kept_more (is_marked gone) at keeps)));
            kept = subst (λ (xs : List ℕ). (i : ℕ) → i < at + 1 → is_marked gone i ≡ false
                → slice_index xs (kept_below (is_marked gone) i) ≡ slice_index heats i) (sym pushed)
                (keep_more gone heats kept (slice_index heats at) at c.loop-at.invariant.size refl c.loop-at.invariant.kept);
          }
      | else-not-gone-at w ↦
          let same : c.if-not-gone-at.kept.items ≡ kept = ap (λ (v : Vec ℕ Global). v.items) w.kept-is in
          record {
            size = ap length same ∙ (c.loop-at.invariant.size ∙ sym (kept_same (is_marked gone) at w.if-not-gone-at.false));
            kept = subst (λ (xs : List ℕ). (i : ℕ) → i < at + 1 → is_marked gone i ≡ false
                → slice_index xs (kept_below (is_marked gone) i) ≡ slice_index heats i) (sym same)
                (keep_same gone heats kept at w.if-not-gone-at.false c.loop-at.invariant.kept);
          }
    ]
