-- Paths that are clean, all of them or not.
use Rattle.std.proofs.Common.{◌≡◌, ◌<◌, ◌&&◌, ℕ, zero, suc, All, Bool, true, false, List, [], ◌∷◌, length, get_or, map, arith, refl}
use Rattle.std.proofs.lemmas.Bool.{and_from}
use Rattle.std.proofs.lemmas.List.Elements.{All-head, All-tail}
use Rattle.std.specs.List.{list_all}

and_false : (b : Bool) → (b && false) ≡ false
and_false true = refl
and_false false = refl

module _ {A X : Type 0} (shown : A → X) (test : X → Bool) where
  pub one_fails : (list : List A) (at : ℕ) (d : A) → at < length list → test (shown (get_or list at d)) ≡ false
      → list_all test (map shown list) ≡ false
  one_fails [] at d inside e = absurd (omega arith)
  one_fails (a ∷ list) zero d inside e = rw e refl
  one_fails (a ∷ list) (suc at) d inside e = rw (one_fails list at d (omega arith) e) (and_false (test (shown a)))

  pub each_passes : (list : List A) → All (λ a. test (shown a) ≡ true) list → list_all test (map shown list) ≡ true
  each_passes [] all = refl
  each_passes (a ∷ list) all =
      and_from (test (shown a)) _ (All-head (λ b. test (shown b) ≡ true) a list all)
      (each_passes list (All-tail (λ b. test (shown b) ≡ true) a list all))
