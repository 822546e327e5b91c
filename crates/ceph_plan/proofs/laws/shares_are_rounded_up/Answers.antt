use Rattle.ceph_plan.proofs.Rounding.{alone, less, up}
use Rattle.ceph_plan.proofs.laws.shares_are_rounded_up.Goals as goal

pub returns-clause-up : goal.returns-clause-up
returns-clause-up c = λ scale bound heat some. up scale bound heat some

pub returns-clause-less : goal.returns-clause-less
returns-clause-less c = λ scale bound heat some. less scale bound heat some

pub returns-clause-alone : goal.returns-clause-alone
returns-clause-alone c = λ bound heat some. alone bound heat some
