use Rattle.std.proofs.Common.{◌≡◌, map, take}
use Rattle.ceph_plan.specs.declared.order.PartHeat.{PartHeat}
use Rattle.ceph_plan.proofs.order.parts_of.Given as goal

abbrev pub invariant-loop-one : goal.invariant-loop-one
invariant-loop-one l = l.parts.items ≡ map (λ (one : PartHeat). one.part.0) (take l.one-index l.sorted)
