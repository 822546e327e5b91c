-- Between which bounds the least one is.
use Rattle.std.specs.Prelude.{ℕ, List}
use Rattle.mds_types.specs.declared.problem.ProblemRow.{ProblemRow}
use Rattle.mds_types.specs.Division.{HasFew, IsLowerBound}
use Rattle.minmax_search.specs.declared.narrow.Gap.{Gap}

-- no division into at most `ranks` parts is cooler than the lower bound, and one is within the upper one
pub record IsGap (rows : List ProblemRow) (ranks : ℕ) (gap : Gap) : Type 0 where
  pub lower : IsLowerBound rows ranks gap.low
  pub few : HasFew rows ranks gap.high
