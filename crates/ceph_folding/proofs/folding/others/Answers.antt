use Rattle.std.proofs.Common.{◌≡◌, ◌<◌, ◌+◌, ◌++◌, ◌∷◌, [], ◌∙◌, ℕ, Bool, List, ap, false, length, subst, sym, true}
use Rattle.std.proofs.lemmas.List.{length_push}
use Rattle.ceph_snapshot.specs.declared.directory.Directory.{Directory}
use Rattle.ceph_snapshot.specs.Holding.{is_marked}
use Rattle.ceph_folding.specs.Folding.{IsPlain}
use Rattle.ceph_folding.proofs.Folds.{mark_more}
use Rattle.ceph_folding.proofs.folding.others.Goals as goal

pub loop-at-preserved : goal.loop-at-preserved
loop-at-preserved c =
    let ds : List Directory = c.args.directories.now in
    let units : List Bool = c.args.units.now in
    let gone : List Bool = c.loop-at.gone.items in
    let at : ℕ = c.loop-at.at in
    let one : Bool = c.is_other.result in
    let pushed : c.push.new.self.items ≡ gone ++ one ∷ [] = c.in_ok-push.ensures.items in
    let plain : ℕ → Bool → Type 0 = λ i m. m ≡ true → IsPlain ds i in
    let other : ℕ → Bool → Type 0 = λ i m. m ≡ true → is_marked units i ≡ false in
    let all : ℕ → Bool → Type 0 = λ i m. IsPlain ds i → is_marked units i ≡ false → m ≡ true in
    record {
      size = ap length pushed ∙ (length_push gone one ∙ ap (λ (n : ℕ). n + 1) c.loop-at.invariant.size);
      plain = subst (λ (xs : List Bool). (i : ℕ) → i < at + 1 → plain i (is_marked xs i)) (sym pushed)
          (mark_more gone one at plain c.loop-at.invariant.size c.loop-at.invariant.plain c.is_other.ensures.plain);
      other = subst (λ (xs : List Bool). (i : ℕ) → i < at + 1 → other i (is_marked xs i)) (sym pushed)
          (mark_more gone one at other c.loop-at.invariant.size c.loop-at.invariant.other c.is_other.ensures.other);
      all = subst (λ (xs : List Bool). (i : ℕ) → i < at + 1 → all i (is_marked xs i)) (sym pushed)
          (mark_more gone one at all c.loop-at.invariant.size c.loop-at.invariant.all c.is_other.ensures.all);
    }
