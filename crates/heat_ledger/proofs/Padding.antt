-- Lists of counts only up to some directory.
use Rattle.std.proofs.Common.{◌≡◌, ℕ, zero, suc, ◌-◌, ◌≤◌, List, [], ◌∷◌, ◌++◌, length, replicate, refl, arith, length-append}
use Rattle.heat_ledger.specs.Rows.{at, padded}
use Rattle.heat_ledger.proofs.RowLemmas.{at_replicate}
use Rattle.std.proofs.lemmas.List.{length-replicate}

at_append_zeros : (xs : List ℕ) (m k : ℕ) → at (xs ++ replicate m 0) k ≡ at xs k
at_append_zeros [] m k = at_replicate m k
at_append_zeros (x ∷ xs) m zero = refl
at_append_zeros (x ∷ xs) m (suc k) = at_append_zeros xs m k

pub at_padded : (n : ℕ) (xs : List ℕ) (k : ℕ) → at (padded n xs) k ≡ at xs k
at_padded n xs k = at_append_zeros xs (n - length xs) k

pub at_push_zero : (xs : List ℕ) (k : ℕ) → at (xs ++ 0 ∷ []) k ≡ at xs k
at_push_zero xs k = at_append_zeros xs 1 k

pub length_padded : (n : ℕ) (xs : List ℕ) → length xs ≤ n → length (padded n xs) ≡ n
length_padded n xs h = omega (arith, length-append xs (replicate (n - length xs) 0), length-replicate {A = ℕ} (n - length xs) 0)
