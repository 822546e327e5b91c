-- Two changes of a table that agree at each place.
use Rattle.std.proofs.Common.{◌≡◌, ℕ, suc, ◌<◌, List, [], ◌∷◌, length, get_or, refl, ap, arith}
use Rattle.export_protocol.specs.Step.{map_at}

pub same_here : {A B : Type 0} (f g : ℕ → A → B) (xs : List A) (d : A)
    → ((k : ℕ) → k < length xs → f k (get_or xs k d) ≡ g k (get_or xs k d)) → map_at f xs ≡ map_at g xs
same_here f g [] d h = refl
same_here f g (x ∷ xs) d h = rw (h 0 (omega arith)) (ap (λ ys. g 0 x ∷ ys) (same_here (λ k. f (suc k)) (λ k. g (suc k)) xs d (λ k l. h (suc k) (omega arith))))
