use Rattle.std.proofs.Common.{rules, ◌≡◌, ◌<◌, ◌+◌, ◌∙◌, ℕ, Bool, false, List, length, ap, sym, subst}
use Rattle.std.proofs.lemmas.List.{length_push}
use Rattle.ceph_snapshot.specs.Holding.{is_marked}
use Rattle.ceph_folding.specs.Keys.{goes}
use Rattle.ceph_snapshot.proofs.Adding.{values_more}
use Rattle.ceph_folding.proofs.coldest.marks.Goals as goal

pub loop-at-preserved : goal.loop-at-preserved
loop-at-preserved c =
    let marks : List Bool = c.loop-at.marks.items in
    let at : ℕ = c.loop-at.at in
    let marked : ℕ → Bool = goes c.args.heats.now c.args.stays.now c.args.last in
    record {
      size = ap length c.in_ok-push.ensures.items ∙ (length_push marks _ ∙ ap (λ (n : ℕ). n + 1) c.loop-at.invariant.size);
      marks = subst (λ (xs : List Bool). (i : ℕ) → i < at + 1 → is_marked xs i ≡ marked i) (sym c.in_ok-push.ensures.items)
          (values_more false marked marks _ at c.loop-at.invariant.size c.loop-at.invariant.marks (search rules));
    }
