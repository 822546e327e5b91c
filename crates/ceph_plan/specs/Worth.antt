-- When a plan is worth what it moves.
use Rattle.std.specs.Prelude.{◌<◌, ◌≤◌, ◌-◌, ◌*◌}
use Rattle.ceph_plan.specs.declared.worth.Gain.{Gain}
use Rattle.ceph_plan.specs.declared.worth.LeastGain.{LeastGain}

-- the hottest rank gets cooler, there is enough heat, and the rank gets cooler by enough: by `percent`, and by
-- `each_thousand` for each thousand inodes that move
pub record IsWorthMoving (gain : Gain) (least : LeastGain) : Type 0 where
  pub cooler : gain.planned < gain.now
  pub heat : least.heat ≤ gain.heat
  pub percent : gain.now * least.percent ≤ (gain.now - gain.planned) * 100
  pub inodes : gain.moved * least.each_thousand ≤ (gain.now - gain.planned) * 1000
