use Rattle.ceph_plan.proofs.NearBound.{near-bound}
use Rattle.ceph_plan.proofs.Stays.{stays}
use Rattle.ceph_plan.proofs.laws.stays_where_that_is_cool_enough.Goals as goal

pub returns-clause-limit : goal.returns-clause-limit
returns-clause-limit c = λ ranks hours rows wanted own found is can few cool. stays ranks hours rows wanted own found is can few cool

pub returns-clause-bound : goal.returns-clause-bound
returns-clause-bound c = λ ranks hours rows wanted own found is h bound can few inside lower near.
    stays ranks hours rows wanted own found is can few
    (near-bound ranks hours rows wanted is.limit h bound _ is.divided is.chosen is.limit_is inside lower near)
