use Rattle.std.proofs.Common.{◌≡◌, ◌++◌, List, take}
use Rattle.ceph_dumps.specs.OneForOne.{AreOneForOne}
use Rattle.ceph_plan.specs.declared.hours.Hour.{Hour}
use Rattle.mdbal_ceph.specs.Hours.{IsHourThen}
use Rattle.mdbal_ceph.proofs.hours.given_hours.Given as goal

abbrev pub invariant-loop-at : goal.invariant-loop-at
invariant-loop-at l =
    (rest : List Hour) × AreOneForOne (IsHourThen l.directories l.holds) (take l.at l.past) rest × (l.given.items ≡ l.initial.given.items ++ rest)
