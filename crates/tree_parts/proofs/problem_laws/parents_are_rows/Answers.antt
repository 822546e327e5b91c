use Rattle.tree_parts.proofs.RowsSoFar.{parents_row}
use Rattle.tree_parts.proofs.problem_laws.parents_are_rows.Goals as goal

pub returns : goal.returns
returns c entries own heats now i tree h = parents_row entries own heats now tree i h
