use Rattle.std.proofs.Common.{◌≡◌, ◌∙◌, ◌<◌, ◌==◌, ℕ, List, arith, false, get_or, length, refl}
use Rattle.std.proofs.lemmas.Bool.{ne_eqb}
use Rattle.std.proofs.lemmas.List.Folds.{list_any_more}
use Rattle.ceph_dumps.proofs.inodes.nul_place.Goals as goal

pub loop-at-preserved : goal.loop-at-preserved
loop-at-preserved c =
    let text : List ℕ = c.args.text.now in
    let at : ℕ = c.loop-at.at in
    let inside : at < length text = omega arith in
    let apart : (get_or text at 0 == 0) ≡ false = ne_eqb (get_or text at 0) 0 c.if-byte-eq0.false in
    list_any_more (λ k. k == 0) text at 0 inside ∙ rw (c.loop-at.invariant, apart) refl
