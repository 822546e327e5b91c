-- Parts on ranks, with prices over which the parts are where they cost least.
use Rattle.std.specs.Prelude.{◌≡◌, ◌<◌, ◌≤◌, ◌+◌, ◌*◌, ◌^◌, ℕ}

-- the first `done` parts have ranks of their own among r: owner j is one more than the part that has rank j, or 0 where
-- it is free
pub record ArePlaced (r : ℕ) (owner : ℕ → ℕ) (done : ℕ) : Type 0 where
  pub owned : (j : ℕ) → j < r → owner j ≤ done
  pub placed : (p : ℕ) → p < done → (j : ℕ) × (j < r) × (owner j ≡ p + 1)
  pub once : (i j : ℕ) → i < r → j < r → 0 < owner i → owner i ≡ owner j → i ≡ j

-- and they are where they cost least: u are the prices of the parts, and w what the prices of the ranks are below 0
pub record IsMatching (k r : ℕ) (cell : ℕ → ℕ → ℕ) (u w owner : ℕ → ℕ) (done : ℕ) : Type 0 where
  pub parts : ArePlaced r owner done
  pub below : (p j : ℕ) → p < k → j < r → u p ≤ cell p j + w j
  pub tight : (p j : ℕ) → p < k → j < r → owner j ≡ p + 1 → u p ≡ cell p j + w j
  pub free : (j : ℕ) → j < r → owner j ≡ 0 → w j ≡ 0
  pub fresh : (p : ℕ) → done ≤ p → p < k → u p ≡ 0
  pub small : (j : ℕ) → j < r → w j ≤ done * 2 ^ 48
