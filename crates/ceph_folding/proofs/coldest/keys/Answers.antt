use Rattle.std.proofs.Common.{◌≡◌, ◌∙◌, ◌∷◌, ◌++◌, ℕ, Bool, List, [], Vec, Global, ap, sym}
use Rattle.std.specs.List.{count_by}
use Rattle.ceph_folding.specs.declared.coldest.Key.{Key}
use Rattle.ceph_folding.specs.Keys.{key_at}
use Rattle.ceph_folding.proofs.Keys.{passes_more, stays_passed}
use Rattle.ceph_folding.proofs.coldest.keys.Goals as goal
use Rattle.ceph_folding.proofs.coldest.keys.Goals.{then-not-stays-at+in_ok-push, else-not-stays-at}

pub loop-at-preserved : goal.loop-at-preserved
loop-at-preserved c = λ test.
    let heats : List ℕ = c.args.heats.now in
    let stays : List Bool = c.args.stays.now in
    let at : ℕ = c.loop-at.at in
    elim c.if-not-stays-at.branch [
      | then-not-stays-at+in_ok-push w ↦
          let more : c.if-not-stays-at.keys.items ≡ c.loop-at.keys.items ++ w.key_of.result ∷ [] =
          ap (λ (keys : Vec Key Global). keys.items) w.keys-is ∙ w.in_ok-push.ensures.items in
          let is : c.if-not-stays-at.keys.items ≡ c.loop-at.keys.items ++ key_at heats at ∷ [] =
          more ∙ ap (λ (key : Key). c.loop-at.keys.items ++ key ∷ []) w.key_of.ensures in
          ap (λ (keys : List Key). count_by test keys) is
          ∙ passes_more heats stays test at c.loop-at.keys.items (w.if-not-stays-at.true) (c.loop-at.invariant test)
      | else-not-stays-at w ↦
          ap (λ (keys : Vec Key Global). count_by test keys.items) w.keys-is
          ∙ (c.loop-at.invariant test ∙ sym (stays_passed heats stays test at w.if-not-stays-at.false))
    ]
