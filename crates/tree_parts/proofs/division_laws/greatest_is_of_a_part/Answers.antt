use Rattle.tree_parts.proofs.Chains.{greatest_is}
use Rattle.tree_parts.proofs.division_laws.greatest_is_of_a_part.Goals as goal

pub returns : goal.returns
returns c ps = greatest_is ps
