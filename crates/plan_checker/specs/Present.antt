-- The present placement of a problem: each row at the rank that has it now.
use Rattle.std.specs.Prelude.{◌≡◌, ◌<◌, ℕ, true, length}
use Rattle.mds_types.specs.declared.plan.Plan.{Plan}
use Rattle.mds_types.specs.Problem.{ProblemData, now_at}
use Rattle.mds_types.specs.RankSet.{has_rank, rank_count}
use Rattle.mds_types.specs.Connected.{IsConnected}
use Rattle.mds_types.specs.Certificate.{plan_label, plan_rank}
use Rattle.mds_types.specs.Division.{IsEdge, InPart, greatest_heat, IsLowerBound}

-- The present placement is itself best: the rows of each rank are connected, their ranks are in the set, and no
-- division into as many parts as there are ranks has a cooler hottest part than the hottest rank.
pub record IsPresentBest (problem : ProblemData) : Type 0 where
  pub usable : (i : ℕ) → i < length problem.rows → has_rank problem.ranks (now_at problem.rows i) ≡ true
  pub connected : (rank : ℕ) → IsConnected (IsEdge problem.rows) (InPart problem.rows (now_at problem.rows) rank)
  pub coolest : IsLowerBound problem.rows (rank_count problem.ranks)
      (greatest_heat problem.rows 64 (now_at problem.rows))

-- the plan leaves each row at the rank that has it now, and moves no inode
pub record IsUnmoved (problem : ProblemData) (plan : Plan) : Type 0 where
  pub stays : (i : ℕ) → i < length problem.rows → plan_rank plan (plan_label plan i) ≡ now_at problem.rows i
  pub none : plan.moved ≡ 0

-- the plan moves nothing where the present placement is itself best
abbrev pub KeepsBest : ProblemData → Plan → Type 0
KeepsBest problem plan = IsPresentBest problem → IsUnmoved problem plan
