use Rattle.std.proofs.Common.{◌∙◌, List, ap, map}
use Rattle.std.proofs.lemmas.Result.{IfOk-weaker}
use Rattle.ceph_plan.specs.declared.order.PartHeat.{PartHeat}
use Rattle.ceph_plan.proofs.Orders.{ordered}
use Rattle.ceph_plan.proofs.order.by_heat.Goals as goal

pub returns : goal.returns
returns c = IfOk-weaker c.parts_of.result _ _ (λ order is.
    ordered c.args.heats.now order.items c.in_ok-sorted.sorted.items c.sort.new.self.items c.in_ok-sorted.ensures.size c.in_ok-sorted.ensures.parts
    c.in_ok-sorted.ensures.heats c.in_ok-sort.ensures.permutation c.in_ok-sort.ensures.sorted
    (is ∙ ap (λ (xs : List PartHeat). map (λ (one : PartHeat). one.part.0) xs) c.deref.ensures.value)) c.parts_of.ensures
