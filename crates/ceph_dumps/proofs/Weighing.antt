-- The sum of weighed counters, one by one.
use Rattle.std.proofs.Common.{◌≡◌, ◌≤◌, ◌∙◌, ◌⊎◌, ℕ, List, [], ◌∷◌, length, drop, min, refl, ap, arith, ⊎_elim, leb, true, false, inl, inr}
use Rattle.std.proofs.lemmas.List.{drop_all}
use Rattle.std.specs.Float.{Float}
use Rattle.std.proofs.lemmas.Bool.{cases_Bool, leb-false, leb-true}
use Rattle.ceph_dumps.specs.Loads.{weighed_sum}

pub past_shorter : (m n at : ℕ) → min m n ≤ at → (m ≤ at) ⊎ (n ≤ at)
past_shorter m n at past =
    ⊎_elim (λ (e : leb m n ≡ true). inl (omega (arith, leb-true m n e, past)))
    (λ (e : leb m n ≡ false). inr (omega (arith, leb-false m n e, past)))
    (cases_Bool (leb m n))

no_weights : (sum : Float) (counters : List Float) → weighed_sum sum counters [] ≡ sum
no_weights sum [] = refl
no_weights sum (counter ∷ counters) = refl

pub all_weighed : (sum : Float) (counters : List Float) (weights : List ℕ) (at : ℕ)
    → (length counters ≤ at) ⊎ (length weights ≤ at) → weighed_sum sum (drop at counters) (drop at weights) ≡ sum
all_weighed sum counters weights at past =
    ⊎_elim
    (λ (end : length counters ≤ at). ap (λ (left : List Float). weighed_sum sum left (drop at weights)) (drop_all at counters end))
    (λ (end : length weights ≤ at).
    ap (λ (left : List ℕ). weighed_sum sum (drop at counters) left) (drop_all at weights end) ∙ no_weights sum (drop at counters))
    past
