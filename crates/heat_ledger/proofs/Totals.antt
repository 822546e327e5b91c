-- Sums over the states of tokens.
use Rattle.std.proofs.Common.{◌≡◌, ℕ, zero, suc, ◌+◌, ◌*◌, ◌≤◌, List, [], ◌∷◌, ◌++◌, set, refl, sym, ap, arith}
use mathlib.Core.Option.{some, some-ne-none, some-injective}
use lib.ListN.{get_elem?}
use Rattle.heat_ledger.specs.declared.tally.TokenState.{TokenState}
use Rattle.heat_ledger.specs.Tally.{sum_over}

pub total_set : (f : TokenState → ℕ) (views : List TokenState) (by : ℕ) (v w : TokenState) → get_elem? views by ≡ some v
    → sum_over f (set views by w) + f v ≡ sum_over f views + f w
total_set f [] by v w e = absurd (some-ne-none v (sym e))
total_set f (u ∷ us) zero v w e = let s : f u ≡ f v = ap f (some-injective u v e) in omega arith
total_set f (u ∷ us) (suc by) v w e = let s = total_set f us by v w e in omega arith

pub total_snoc : (f : TokenState → ℕ) (views : List TokenState) (w : TokenState) → sum_over f (views ++ w ∷ []) ≡ sum_over f views + f w
total_snoc f [] w = omega arith
total_snoc f (u ∷ us) w = let s = total_snoc f us w in omega arith

pub total_get : (f : TokenState → ℕ) (views : List TokenState) (by : ℕ) (v : TokenState) → get_elem? views by ≡ some v → f v ≤ sum_over f views
total_get f [] by v e = absurd (some-ne-none v (sym e))
total_get f (u ∷ us) zero v e = let s : f u ≡ f v = ap f (some-injective u v e) in omega arith
total_get f (u ∷ us) (suc by) v e = let s = total_get f us by v e in omega arith

pub total_scaled : (f g : TokenState → ℕ) (c : ℕ) (views : List TokenState)
    → ((by : ℕ) (v : TokenState) → get_elem? views by ≡ some v → f v ≤ g v * c) → sum_over f views ≤ sum_over g views * c
total_scaled f g c [] h = omega arith
total_scaled f g c (u ∷ us) h =
    let s = total_scaled f g c us (λ by v e. h (suc by) v e) in
    let t = h zero u refl in
    let m : (g u + sum_over g us) * c ≡ g u * c + sum_over g us * c = omega arith in
    omega arith
