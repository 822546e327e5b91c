use Rattle.tree_parts.proofs.Chains.{divide}
use Rattle.tree_parts.proofs.division_laws.parts_divide.Goals as goal

pub returns : goal.returns
returns c entries own heats tops tree = divide entries own tops tree heats
