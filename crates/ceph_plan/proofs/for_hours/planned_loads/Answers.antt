use Rattle.std.proofs.Common.{◌∙◌, ℕ, List, ap, length, slice_index}
use Rattle.std.proofs.lemmas.Result.{IfOk-weaker}
use Rattle.ceph_plan.specs.declared.hours.Hour.{Hour}
use Rattle.ceph_plan.specs.Packing.{packed_rank}
use Rattle.ceph_plan.proofs.HourPlanned.{loads-same}
use Rattle.ceph_plan.proofs.for_hours.planned_loads.Goals as goal

pub returns : goal.returns
returns c =
    let hours : List Hour = c.args.hours.now in
    let part : List ℕ = c.args.part.now in
    let ranks : List ℕ = c.deref.result.now in
    IfOk-weaker c.loads.result _ _
    (λ found is. loads-same hours (length ranks) (length part) (slice_index ranks) (packed_rank c.args.rank.now part) found.items
    (ap length c.deref.ensures.value ∙ c.in_ok-ranks.ensures.size)
    (λ i l. ap (λ (xs : List ℕ). slice_index xs i) c.deref.ensures.value ∙ c.in_ok-ranks.ensures.ranks i l) is)
    c.loads.ensures
