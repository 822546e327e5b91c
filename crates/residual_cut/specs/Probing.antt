-- A walk that keeps only what is left of each subtree.
use Rattle.std.specs.Prelude.{◌≡◌, ◌<◌, ◌≤◌, ◌+◌, ◌-◌, ◌^◌, ◌&&◌, ℕ, Bool, true}
use Rattle.std.specs.Prelude.{nat_lt, min, max, List, length, slice_index, if◌then◌else◌}
use Rattle.mds_types.specs.declared.problem.ProblemRow.{ProblemRow}
use Rattle.mds_types.specs.declared.cut_proof.Row.{Row}
use Rattle.mds_types.specs.CutTable.{is_child, rest_at, price_at, is_cut_at}
use Rattle.mds_types.specs.Sums.{sum_below, count_below}
use Rattle.residual_cut.specs.declared.probe.Seen.{Seen}
use Rattle.residual_cut.specs.declared.subtrees.Weighed.{Weighed}
use Rattle.residual_cut.specs.Walk.{IsWalked}

-- row j is a child of row v, and is among the rows before row m, which are not handled yet
abbrev pub is_waiting : List ProblemRow → ℕ → ℕ → ℕ → Bool
is_waiting rows m v j = nat_lt j m && is_child rows v j

-- at each row that was cut from, the sum before the last cut is at least this
pub record IsSeen (rows : List ProblemRow) (table : List Row) (above : ℕ) : Type 0 where
  pub full : (v j : ℕ) → j < length rows → is_child rows v j ≡ true → is_cut_at table j ≡ true
      → above ≤ rest_at table v + price_at table v

-- the rests are those of a walk's table, which nobody keeps, and the whole subtrees
-- of the children that are not handled yet
pub record IsProbed (rows : List ProblemRow) (heat rest : ℕ → ℕ) (bound m s : ℕ) (seen : Seen) : Type 0 where
  pub table : List Row
  pub walked : IsWalked rows table bound m s
  pub rest_is : (v : ℕ) → v < length rows
      → rest v ≡ rest_at table v + sum_below (length rows) (λ j. if is_waiting rows m v j then heat j else 0)
  pub less : (v : ℕ) → v < length rows → rest v ≤ heat v
  pub whole : (v : ℕ) → v < length rows → heat v ≤ bound → rest v ≡ heat v
  pub counted : count_below (length rows) (is_cut_at table) ≡ seen.cuts
  pub seen_is : IsSeen rows table seen.above
  pub above : 0 < seen.cuts → bound < seen.above
  pub idle : seen.cuts ≡ 0 → seen.above ≡ 2 ^ 64 - 1
  pub tops : (j : ℕ) → j < length rows → is_cut_at table j ≡ true → rest_at table j ≤ seen.hottest
  pub within : seen.hottest ≤ bound

-- a probe at the bound comes to row i with ranks left
pub record IsProbing (of : Weighed) (rest : List ℕ) (bound i : ℕ) (seen : Seen) : Type 0 where
  pub inside : i < length of.rows.now
  pub size : length rest ≡ length of.rows.now
  pub low : of.trees.now.low ≤ bound
  pub few : seen.cuts < of.ranks
  pub probed : IsProbed of.rows.now (slice_index of.trees.now.heat.items) (slice_index rest) bound (i + 1) (i + 1) seen

-- a piece was cut from a sum
pub record IsSeenWith (old : Seen) (sum piece : ℕ) (new : Seen) : Type 0 where
  pub cuts : new.cuts ≡ old.cuts + 1
  pub above : new.above ≡ min old.above sum
  pub hottest : new.hottest ≡ max old.hottest piece
