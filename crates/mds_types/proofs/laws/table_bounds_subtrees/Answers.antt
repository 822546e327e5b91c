use Rattle.mds_types.proofs.DivisionLemmas.{table_beyond}
use Rattle.mds_types.proofs.laws.table_bounds_subtrees.Goals as goal

pub returns : goal.returns
returns c = table_beyond
