use Rattle.dirtree.specs.Name.{name_bytes}
use Rattle.dirtree.proofs.name.Name.empty.Goals as goal

pub returns : goal.returns
unfolding name_bytes
returns c = c.new.ensures
