use Rattle.std.proofs.Common.{rules}
use Rattle.dirtree.specs.Keeps.{chain_of}
use Rattle.dirtree.proofs.node.chain.Goals as goal

pub returns-clause-value : goal.returns-clause-value
unfolding chain_of
returns-clause-value c = search rules
