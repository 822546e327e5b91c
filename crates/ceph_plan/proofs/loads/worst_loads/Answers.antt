use Rattle.std.proofs.Common.{◌∙◌, ◌+◌, ◌*◌, ℕ, List, ap, length, slice_index}
use Rattle.std.proofs.lemmas.Result.{IfOk-weaker}
use Rattle.ceph_plan.specs.declared.hours.Hour.{Hour}
use Rattle.ceph_plan.specs.Packing.{load_in}
use Rattle.ceph_plan.proofs.HourSums.{max-same}
use Rattle.ceph_plan.proofs.loads.worst_loads.Goals as goal

pub returns-clause-loads : goal.returns-clause-loads
returns-clause-loads c =
    let hours : List Hour = c.args.hours.now in
    let rank : List ℕ = c.args.rank.now in
    IfOk-weaker c.greatest_loads.result _ _ (λ found is r small.
    is r small
    ∙ max-same (length hours) (λ h. slice_index c.deref.result.now (h * 64 + r)) (λ h. load_in hours (length rank) (slice_index rank) h r)
    (λ h l. ap (λ (xs : List ℕ). slice_index xs (h * 64 + r)) c.deref.ensures.value ∙ c.in_ok-table.ensures.are h r l small))
    c.greatest_loads.ensures.greatest
