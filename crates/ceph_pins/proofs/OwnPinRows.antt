-- The pins of one more directory.
use Rattle.std.proofs.Common.{◌≡◌, ◌≢◌, ◌∙◌, ◌<◌, ◌+◌, ◌++◌, ℕ, List, [], ◌∷◌, arith, length, subst, sym, ⊎_elim}
use Rattle.std.proofs.lemmas.Bool.{cases_eq}
use Rattle.std.proofs.lemmas.List.{get_or_append_left, get_or_push, length-append}
use Rattle.ceph_snapshot.specs.declared.directory.Directory.{Directory}
use Rattle.ceph_plan.specs.declared.proposal.OwnPins.{OwnPins}
use Rattle.ceph_plan.specs.Asked.{no_pins, own_at}
use Rattle.ceph_pins.specs.OwnPins.{AreOwnPins, IsOwnPins}

pub one_more : (directories : List Directory) (leave : List (List ℕ)) (n : ℕ) (own more : List OwnPins) (one : OwnPins) → more ≡ own ++ one ∷ []
    → AreOwnPins directories leave n own → IsOwnPins directories leave n one → AreOwnPins directories leave (n + 1) more
one_more directories leave n own more one is before this = subst (AreOwnPins directories leave (n + 1)) (sym is) (record {
  size = omega (arith, before.size, length-append own (one ∷ []));
  each = λ i l.
      ⊎_elim
      (λ (same : i ≡ n).
      let there : own_at (own ++ one ∷ []) i ≡ one = get_or_push own one no_pins i (before.size ∙ sym same) in
      subst (λ (k : ℕ). IsOwnPins directories leave k (own_at (own ++ one ∷ []) i)) (sym same) (subst (IsOwnPins directories leave n) (sym there) this))
      (λ (other : i ≢ n).
      let under : i < length own = omega (arith, l, other, before.size) in
      subst (IsOwnPins directories leave i) (sym (get_or_append_left own (one ∷ []) no_pins i under)) (before.each i (omega (arith, l, other))))
      (cases_eq i n);
})
