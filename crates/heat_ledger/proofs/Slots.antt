-- The entries of the totals, which are of directories.
use Rattle.std.proofs.Common.{◌≡◌, ◌≢◌, ◌⊎◌, ℕ, zero, suc, ◌+◌, ◌-◌, List, [], ◌∷◌, refl, ap, inl, inr, arith}
use Rattle.heat_ledger.specs.Counts.{CountsData}
use Rattle.heat_ledger.specs.Rows.{at, differences}
use Rattle.heat_ledger.specs.Ledger.{spread, laid_out, unit, hit_slot, begun_slot}
use Rattle.heat_ledger.proofs.RowLemmas.{at_sums, at_differences}

pub at_spread_hits : (xs : List ℕ) (d k : ℕ) → k ≡ d + d → at (spread xs) k ≡ at xs d
at_spread_hits [] d k e = refl
at_spread_hits (x ∷ xs) zero zero e = refl
at_spread_hits (x ∷ xs) zero (suc k) e = absurd (omega arith)
at_spread_hits (x ∷ xs) (suc d) zero e = absurd (omega arith)
at_spread_hits (x ∷ xs) (suc d) (suc zero) e = absurd (omega arith)
at_spread_hits (x ∷ xs) (suc d) (suc (suc k)) e = at_spread_hits xs d k (omega arith)

pub at_spread_begun : (xs : List ℕ) (d k : ℕ) → k ≡ d + d + 1 → at (spread xs) k ≡ 0
at_spread_begun [] d k e = refl
at_spread_begun (x ∷ xs) d zero e = absurd (omega arith)
at_spread_begun (x ∷ xs) d (suc zero) e = refl
at_spread_begun (x ∷ xs) zero (suc (suc k)) e = absurd (omega arith)
at_spread_begun (x ∷ xs) (suc d) (suc (suc k)) e = at_spread_begun xs d k (omega arith)

at_beside_hits : (xs : List ℕ) (d k : ℕ) → k ≡ d + d → at (0 ∷ spread xs) k ≡ 0
at_beside_hits xs d zero e = refl
at_beside_hits xs zero (suc k) e = absurd (omega arith)
at_beside_hits xs (suc d) (suc k) e = at_spread_begun xs d k (omega arith)

at_beside_begun : (xs : List ℕ) (d k : ℕ) → k ≡ d + d + 1 → at (0 ∷ spread xs) k ≡ at xs d
at_beside_begun xs d zero e = absurd (omega arith)
at_beside_begun xs d (suc k) e = at_spread_hits xs d k (omega arith)

pub at_laid_out_hits : (counts : CountsData) (d k : ℕ) → k ≡ hit_slot d → at (laid_out counts) k ≡ at counts.hits d - at counts.pending d
at_laid_out_hits counts d k e =
    let a = at_sums (spread (differences counts.hits counts.pending)) (0 ∷ spread counts.begun) k in
    let b = at_spread_hits (differences counts.hits counts.pending) d k e in
    let c = at_beside_hits counts.begun d k e in
    let f = at_differences counts.hits counts.pending d in
    omega arith

pub at_laid_out_begun : (counts : CountsData) (d k : ℕ) → k ≡ begun_slot d → at (laid_out counts) k ≡ at counts.begun d
at_laid_out_begun counts d k e =
    let a = at_sums (spread (differences counts.hits counts.pending)) (0 ∷ spread counts.begun) k in
    let b = at_spread_begun (differences counts.hits counts.pending) d k e in
    let c = at_beside_begun counts.begun d k e in
    omega arith

pub at_unit_same : (k : ℕ) → at (unit k) k ≡ 1
at_unit_same zero = refl
at_unit_same (suc k) = at_unit_same k

pub at_unit_other : (k j : ℕ) → j ≢ k → at (unit k) j ≡ 0
at_unit_other zero zero n = absurd (n refl)
at_unit_other zero (suc j) n = refl
at_unit_other (suc k) zero n = refl
at_unit_other (suc k) (suc j) n = at_unit_other k j (λ e. n (ap suc e))

-- each entry is a directory's hits or a directory's begun requests
pub entry_is : (k : ℕ) → ((d : ℕ) × (k ≡ hit_slot d)) ⊎ ((d : ℕ) × (k ≡ begun_slot d))
entry_is zero = inl (0, omega arith)
entry_is (suc zero) = inr (0, omega arith)
entry_is (suc (suc k)) = after (entry_is k)
  where
    after : {k : ℕ} → ((d : ℕ) × (k ≡ hit_slot d)) ⊎ ((d : ℕ) × (k ≡ begun_slot d))
        → ((d : ℕ) × (suc (suc k) ≡ hit_slot d)) ⊎ ((d : ℕ) × (suc (suc k) ≡ begun_slot d))
    after (inl h) = let e = h.1 in inl (suc h.0, omega arith)
    after (inr h) = let e = h.1 in inr (suc h.0, omega arith)
