use Rattle.ceph_plan.proofs.HourSums.{one-greatest, one-load}
use Rattle.ceph_plan.proofs.laws.one_hour_is_its_rows.Goals as goal

pub returns-clause-load : goal.returns-clause-load
returns-clause-load c = λ rows pinned hours to r one. one-load rows pinned hours to r one

pub returns-clause-greatest : goal.returns-clause-greatest
returns-clause-greatest c = λ ranks rows pinned hours to one. one-greatest ranks rows pinned hours to one
