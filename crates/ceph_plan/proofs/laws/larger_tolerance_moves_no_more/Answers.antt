use Rattle.ceph_plan.proofs.Taken.{larger-moves}
use Rattle.ceph_plan.proofs.laws.larger_tolerance_moves_no_more.Goals as goal

pub returns : goal.returns
returns c = λ keep more divisions plan other wider taken those. larger-moves keep more divisions plan other wider taken those
