use Rattle.ceph_plan.proofs.Moves.{set_at, unset_at}
use Rattle.ceph_plan.proofs.laws.each_row_moves_once.Goals as goal

pub returns-clause-set : goal.returns-clause-set
returns-clause-set c = λ rows old new at i r are l there. set_at rows old new at i r are l there

pub returns-clause-unset : goal.returns-clause-unset
returns-clause-unset c = λ rows old new at i r are l there. unset_at rows old new at i r are l there
