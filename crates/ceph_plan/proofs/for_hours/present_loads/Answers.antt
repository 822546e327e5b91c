use Rattle.std.proofs.Common.{◌∙◌, ℕ, List, ap, length, slice_index}
use Rattle.std.proofs.lemmas.Result.{IfOk-weaker}
use Rattle.mds_types.specs.declared.problem.ProblemRow.{ProblemRow}
use Rattle.mds_types.specs.Problem.{now_at}
use Rattle.ceph_plan.specs.declared.hours.Hour.{Hour}
use Rattle.ceph_plan.proofs.HourPlanned.{loads-same}
use Rattle.ceph_plan.proofs.for_hours.present_loads.Goals as goal

pub returns : goal.returns
returns c =
    let hours : List Hour = c.args.hours.now in
    let rows : List ProblemRow = c.args.rows.now in
    let ranks : List ℕ = c.deref.result.now in
    IfOk-weaker c.loads.result _ _
    (λ found is. loads-same hours (length ranks) (length rows) (slice_index ranks) (now_at rows) found.items
    (ap length c.deref.ensures.value ∙ c.in_ok-ranks.ensures.size)
    (λ i l. ap (λ (xs : List ℕ). slice_index xs i) c.deref.ensures.value ∙ c.in_ok-ranks.ensures.now i l) is)
    c.loads.ensures
