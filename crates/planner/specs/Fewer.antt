-- What a plan moves, compared with the cut that the search finds.
use Rattle.std.specs.Prelude.{◌≤◌, ℕ, slice_index}
use Rattle.mds_types.specs.declared.plan.Plan.{Plan}
use Rattle.mds_types.specs.Placing.{IsPlacing, moved}
use Rattle.mds_types.specs.Problem.{ProblemData}
use Rattle.mds_types.specs.RankSet.{rank_count}
use Rattle.minmax_search.specs.Found.{IsFound}
use Rattle.minmax_search.specs.declared.found.BestCut.{BestCut}

-- the plan moves no more inodes than any placing of a cut as the search finds it
abbrev pub IsNoWorse : ProblemData → Plan → Type 0
IsNoWorse problem plan =
    (found : BestCut) × IsFound problem.rows (rank_count problem.ranks) found
    × ((rank : ℕ → ℕ) → IsPlacing problem.rows problem.ranks (slice_index found.cut.part.items) rank
    → plan.moved ≤ moved problem.rows (slice_index found.cut.part.items) rank)
