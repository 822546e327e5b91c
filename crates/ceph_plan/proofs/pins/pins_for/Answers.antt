use Rattle.std.proofs.Common.{subst, sym}
use Rattle.std.proofs.lemmas.Result.{IfOk-weaker}
use Rattle.ceph_plan.specs.Holds.{HoldEach}
use Rattle.ceph_plan.specs.Rule.{ArePinsFor}
use Rattle.ceph_plan.proofs.Found.{pins_found}
use Rattle.ceph_plan.proofs.pins.pins_for.Goals as goal

pub returns : goal.returns
returns c =
    let each : HoldEach c.args.rows.now c.deref.result.now = subst (HoldEach c.args.rows.now) (sym c.deref.ensures.value) c.in_ok-holds.ensures in
    IfOk-weaker c.gather.result _ _
    (λ pins is. subst (ArePinsFor c.args.rows.now) (sym is) (pins_found c.args.rows.now c.deref.result.now each)) c.gather.ensures
