-- Shortest ways to the ranks.
use Rattle.std.specs.Prelude.{◌≡◌, ◌≢◌, ◌<◌, ◌≤◌, ◌+◌, ◌-◌, ◌⊎◌, ℕ, List, nat_lt, slice_index_or}
use Rattle.mds_types.specs.Sums.{count_below}
use Rattle.rank_assign.specs.declared.ways.Way.{Way}

abbrev pub no_way : Way
no_way = record { near = 0; via = 0; turn = 0 }

abbrev pub near_at : List Way → ℕ → ℕ
near_at ways j = (slice_index_or ways j no_way).near

abbrev pub via_at : List Way → ℕ → ℕ
via_at ways j = (slice_index_or ways j no_way).via

abbrev pub turn_at : List Way → ℕ → ℕ
turn_at ways j = (slice_index_or ways j no_way).turn

-- a way of one step, to a rank that hasn't been reached
pub record IsFirstWay (way : Way) (near : ℕ) : Type 0 where
  pub near_is : way.near ≡ near
  pub via_is : way.via ≡ 0
  pub turn_is : way.turn ≡ 0

-- the way stays, as no shorter one was offered to a rank not yet reached
pub record IsKept (old new : Way) (near : ℕ) : Type 0 where
  pub near_is : new.near ≡ old.near
  pub via_is : new.via ≡ old.via
  pub shorter : old.turn ≡ 0 → old.near ≤ near

-- the shorter way is taken
pub record IsTaken (old new : Way) (near via : ℕ) : Type 0 where
  pub unseen : old.turn ≡ 0
  pub near_is : new.near ≡ near
  pub via_is : new.via ≡ via
  pub shorter : near < old.near

pub record IsImproved (old new : Way) (near via : ℕ) : Type 0 where
  pub turn_is : new.turn ≡ old.turn
  pub either : IsKept old new near ⊎ IsTaken old new near via

-- the way to rank j goes over rank i, whose part moves on
pub record IsLink (r : ℕ) (cell : ℕ → ℕ → ℕ) (u w owner near turn : ℕ → ℕ) (i j : ℕ) : Type 0 where
  pub inside : i < r
  pub seen : 0 < turn i
  pub owned : 0 < owner i
  pub before : 0 < turn j → turn i < turn j
  pub nearer : near i ≤ near j
  pub exact : near j + u (owner i - 1) ≡ near i + cell (owner i - 1) j + w j

-- the t nearest ranks have been reached, and the ways over their parts were tried
pub record IsReaching (r : ℕ) (cell : ℕ → ℕ → ℕ) (u w owner : ℕ → ℕ) (s : ℕ) (near via turn : ℕ → ℕ)
    (t : ℕ) : Type 0 where
  pub recent : (j : ℕ) → j < r → turn j ≤ t
  pub counted : count_below r (λ j. nat_lt 0 (turn j)) ≡ t
  pub owned : (j : ℕ) → j < r → 0 < turn j → 0 < owner j
  pub order : (i j : ℕ) → i < r → j < r → 0 < turn i → turn j ≡ 0 → near i ≤ near j
  pub first : (j : ℕ) → j < r → near j ≤ cell s j + w j
  pub edge : (i j : ℕ) → i < r → j < r → 0 < turn i → near j + u (owner i - 1) ≤ near i + cell (owner i - 1) j + w j
  pub direct : (j : ℕ) → j < r → via j ≡ 0 → near j ≡ cell s j + w j
  pub linked : (i j : ℕ) → j < r → via j ≡ i + 1 → IsLink r cell u w owner near turn i j

-- a free rank e has been reached, and no free one is nearer
pub record IsReached (r : ℕ) (cell : ℕ → ℕ → ℕ) (u w owner : ℕ → ℕ) (s : ℕ) (near via turn : ℕ → ℕ)
    (e : ℕ) : Type 0 where
  pub inside : e < r
  pub free : owner e ≡ 0
  pub seen : 0 < turn e
  pub only : (j : ℕ) → j < r → 0 < turn j → j ≢ e → 0 < owner j
  pub before : (j : ℕ) → j < r → 0 < turn j → near j ≤ near e
  pub beyond : (j : ℕ) → j < r → turn j ≡ 0 → near e ≤ near j
  pub first : (j : ℕ) → j < r → near j ≤ cell s j + w j
  pub edge : (i j : ℕ) → i < r → j < r → 0 < turn i → 0 < owner i
      → near j + u (owner i - 1) ≤ near i + cell (owner i - 1) j + w j
  pub direct : (j : ℕ) → j < r → via j ≡ 0 → near j ≡ cell s j + w j
  pub linked : (i j : ℕ) → j < r → via j ≡ i + 1 → IsLink r cell u w owner near turn i j

-- ways lead back, over ranks that have parts, to a first step
pub record IsPathStep (r : ℕ) (owner turn : ℕ → ℕ) (i j : ℕ) : Type 0 where
  pub inside : i < r
  pub seen : 0 < turn i
  pub owned : 0 < owner i
  pub before : turn i < turn j

abbrev pub ArePaths : ℕ → (ℕ → ℕ) → (ℕ → ℕ) → (ℕ → ℕ) → Type 0
ArePaths r owner via turn = (i j : ℕ) → j < r → 0 < turn j → via j ≡ i + 1 → IsPathStep r owner turn i j

-- part p comes to rank j: from the rank before it on the way, or as the part s that is placed
pub record IsHandedOn (owner via turn : ℕ → ℕ) (p j : ℕ) : Type 0 where
  pub from : ℕ
  pub way : via j ≡ from + 1
  pub seen : 0 < turn j
  pub had : owner from ≡ p + 1

pub record IsHandedFirst (via turn : ℕ → ℕ) (s p j : ℕ) : Type 0 where
  pub way : via j ≡ 0
  pub seen : 0 < turn j
  pub part : p ≡ s

abbrev pub IsHandedTo : (ℕ → ℕ) → (ℕ → ℕ) → (ℕ → ℕ) → ℕ → ℕ → ℕ → Type 0
IsHandedTo owner via turn s p j = (owner j ≡ p + 1) ⊎ (IsHandedOn owner via turn p j ⊎ IsHandedFirst via turn s p j)
