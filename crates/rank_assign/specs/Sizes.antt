-- How much the Hungarian method's tables hold.
use Rattle.std.specs.Prelude.{◌≡◌, ◌<◌, ◌≤◌, ◌+◌, ◌*◌, ◌^◌, ℕ, List, length, slice_index}
use Rattle.plan_checker.specs.Costs.{cell_at_place}
use Rattle.rank_assign.specs.declared.ways.Way.{Way}

-- there are no more parts than ranks, an owner, a debt and a way for each rank, and a small cell for each part and rank
pub record CanMatch (cells prices debts owners : List ℕ) (ways : List Way) : Type 0 where
  pub owners_size : length owners ≡ length debts
  pub ways_size : length ways ≡ length debts
  pub cells_size : length cells ≡ length prices * length debts
  pub few : length cells ≤ 4096
  pub enough : length prices ≤ length debts
  pub ranks : length debts ≤ 64
  pub small : (p j : ℕ) → p < length prices → j < length debts → cell_at_place cells (length debts) p j ≤ 2 ^ 48

-- the part has a small cell for each rank, each of which has a small debt and a way
pub record CanStep (cells debts : List ℕ) (ways : List Way) (part : ℕ) : Type 0 where
  pub inside : part * length debts + length debts ≤ length cells
  pub few : length cells ≤ 4096
  pub ways_size : length ways ≡ length debts
  pub small : (j : ℕ) → j < length debts → cell_at_place cells (length debts) part j ≤ 2 ^ 48
  pub debts_small : (j : ℕ) → j < length debts → slice_index debts j ≤ 2 ^ 56
