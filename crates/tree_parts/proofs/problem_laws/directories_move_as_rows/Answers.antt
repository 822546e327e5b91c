use Rattle.tree_parts.proofs.DirDivisions.{moves_agree, placed_dirs, placed_rows}
use Rattle.tree_parts.proofs.problem_laws.directories_move_as_rows.Goals as goal

pub returns : goal.returns
returns c = record {
  placings = λ entries own heats now ranks label rank tree.
      (placed_rows entries own heats now tree ranks label rank, placed_dirs entries own heats now tree ranks label rank);
  moves = λ entries own heats now label rank tree. moves_agree entries own heats now tree 0 label rank;
}
