use Rattle.std.proofs.Common.{◌≡◌, ◌++◌, List, take}
use Rattle.ceph_dumps.specs.OneForOne.{AreOneForOne}
use Rattle.ceph_plan.specs.declared.hours.Hour.{Hour}
use Rattle.mdbal_ceph.specs.Hours.{IsCopied}
use Rattle.mdbal_ceph.proofs.planning.with_made.Given as goal

abbrev pub invariant-loop-one : goal.invariant-loop-one
invariant-loop-one l =
    (added : List Hour) × AreOneForOne IsCopied (take l.one-index l.made) added × (l.hours.items ≡ l.initial.hours.items ++ added)
