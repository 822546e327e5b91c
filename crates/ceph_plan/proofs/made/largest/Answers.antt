use Rattle.std.proofs.Common.{◌≡◌, ◌∙◌, ◌<◌, ◌≤◌, ℕ, List, ap, arith, length, length-append, refl, set, slice_index, subst, sym}
use Rattle.ceph_plan.proofs.Making.{AreTaken, taken-more}
use Rattle.ceph_plan.proofs.PackedParts.{read-value}
use Rattle.ceph_plan.proofs.made.largest.Goals as goal

pub loop-preserved : goal.loop-preserved
loop-preserved c =
    let numbers : List ℕ = c.args.numbers.now in
    let left : List ℕ = c.loop.left.items in
    let found : List ℕ = c.loop.found.items in
    let at : ℕ = c.greatest_place-at.result in
    let inside : at < length left = subst (λ (xs : List ℕ). at < length xs) c.deref.ensures.value c.greatest_place-at.ensures.inside in
    let greatest : (i : ℕ) → i < length left → slice_index left i ≤ slice_index left at =
    subst (λ (xs : List ℕ). (i : ℕ) → i < length xs → slice_index xs i ≤ slice_index xs at) c.deref.ensures.value c.greatest_place-at.ensures.greatest in
    let read : c.index.result.now ≡ slice_index left at = read-value left left at c.index.result.now refl inside c.index.ensures in
    record {
      taken = subst (λ (xs : List ℕ). AreTaken numbers (set left at 0) xs) (sym c.in_ok-push.ensures.items)
          (taken-more numbers left found at c.loop.invariant.taken inside greatest (omega (arith, c.if-index-lt-MADE_CHILDREN.false, read)));
      size = ap length c.in_ok-push.ensures.items ∙ simp length-append (omega (arith, c.loop.invariant.size));
    }
