-- Prices of parts and ranks over any costs.
use Rattle.std.specs.Prelude.{◌≡◌, ◌≢◌, ◌<◌, ℕ, pos, ◌+ℤ◌, ◌≤ℤ◌, true, length}
use Rattle.mds_types.specs.declared.dual_proof.DualProof.{DualProof}
use Rattle.mds_types.specs.Certificate.{part_price_at, rank_price_at}
use Rattle.mds_types.specs.RankSet.{has_rank, rank_count}

-- the conditions of a dual proof, where k parts have these costs at the ranks of the set
pub record ArePrices (ranks k : ℕ) (cost : ℕ → ℕ → ℕ) (rank : ℕ → ℕ) (dual : DualProof) : Type 0 where
  pub part_prices : length dual.part_price ≡ k
  pub rank_prices : length dual.rank_price ≡ rank_count ranks
  pub below : (part r : ℕ) → part < k → has_rank ranks r ≡ true
      → (part_price_at dual part +ℤ rank_price_at dual ranks r) ≤ℤ pos (cost part r)
  pub not_above : (r : ℕ) → has_rank ranks r ≡ true → rank_price_at dual ranks r ≤ℤ pos 0
  pub unused : (r : ℕ) → has_rank ranks r ≡ true → ((part : ℕ) → part < k → rank part ≢ r)
      → rank_price_at dual ranks r ≡ pos 0
  pub chosen : (part : ℕ) → part < k
      → (part_price_at dual part +ℤ rank_price_at dual ranks (rank part)) ≡ pos (cost part (rank part))
