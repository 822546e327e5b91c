use Rattle.tree_parts.proofs.DirDivisions.{divisions_agree, heats_agree, no_cooler}
use Rattle.tree_parts.proofs.problem_laws.directories_divide_as_rows.Goals as goal

pub returns : goal.returns
returns c = record {
  divisions = λ entries own heats now k label tree. divisions_agree entries own heats now tree k label;
  heats = λ entries own heats now label part tree. heats_agree entries own heats now tree 0 label part;
  least = λ entries own heats now k heat label tree lower is. no_cooler entries own heats now tree k label heat lower is;
}
