-- Costs of parts at ranks.
use Rattle.std.specs.Prelude.{◌≡◌, ◌<◌, ◌≤◌, ◌*◌, ◌^◌, ℕ, List, All, length, slice_index}
use Rattle.mds_types.specs.Problem.{ProblemData}
use Rattle.mds_types.specs.RankSet.{rank_count}

-- each row has one of `count` parts, which are no more than the ranks
pub record CanPlace (problem : ProblemData) (part : List ℕ) (count : ℕ) : Type 0 where
  pub size : length part ≡ length problem.rows
  pub below : (i : ℕ) → i < length problem.rows → slice_index part i < count
  pub few : count ≤ rank_count problem.ranks

-- `count` parts, the ranks as a bit map, and a cell for each part and rank
pub record CostData : Type 0 where
  pub count : ℕ
  pub ranks : ℕ
  pub cells : List ℕ

pub record IsCostData (costs : CostData) : Type 0 where
  pub few : costs.count ≤ rank_count costs.ranks
  pub size : length costs.cells ≡ costs.count * rank_count costs.ranks
  pub small : All (λ cell. cell ≤ 2 ^ 48) costs.cells
