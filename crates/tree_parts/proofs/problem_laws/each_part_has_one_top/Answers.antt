use Rattle.tree_parts.proofs.TopsOfParts.{one_top_of}
use Rattle.tree_parts.proofs.problem_laws.each_part_has_one_top.Goals as goal

pub returns : goal.returns
returns c rows k part label forest parts l = one_top_of rows k label forest parts part l
