use Rattle.ceph_plan.proofs.OneHour.{one-rows, one-shares}
use Rattle.ceph_plan.proofs.laws.one_hour_counts_its_heat.Goals as goal

pub returns-clause-rows : goal.returns-clause-rows
returns-clause-rows c = λ ranks rows pinned weights hours found one are. one-rows ranks rows pinned weights hours found one are

pub returns-clause-hour : goal.returns-clause-hour
returns-clause-hour c = λ ranks rows pinned weights hours found one are. one-shares ranks rows pinned weights hours found one are
