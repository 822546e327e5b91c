use Rattle.std.proofs.Common.{take}
use Rattle.ceph_plan.specs.ChosenHours.{AreThose}
use Rattle.mdbal_ceph.proofs.planning.chosen_of.Given as goal

abbrev pub invariant-loop-place : goal.invariant-loop-place
invariant-loop-place l =
    AreThose l.given (take l.place-index l.chosen) l.seen.items
