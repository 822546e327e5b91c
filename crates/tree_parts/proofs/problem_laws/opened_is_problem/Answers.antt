use Rattle.tree_parts.proofs.RowsSoFar.{problem}
use Rattle.tree_parts.proofs.problem_laws.opened_is_problem.Goals as goal

pub returns : goal.returns
returns c entries own heats now ranks tree small cool some = problem entries own heats now tree ranks small cool some
