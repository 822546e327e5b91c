use Rattle.std.proofs.Common.{sym, ap, arith}
use Rattle.mds_board.specs.Steps.{Present}
use Rattle.mds_board.proofs.Accepted.{has_place, may_adopt}
use Rattle.mds_board.proofs.state.BoardState.adopt.Goals as goal

pub judge-requires : goal.judge-requires
judge-requires g c = may_adopt _ c.args.plan.now (sym (c.in_default.ensures c.args.plan.now))

pub overflow_add-self : goal.overflow_add-self
overflow_add-self g c =
    let place = has_place _ _ (sym (c.in_default.ensures c.args.plan.now)) in
    let same = ap (λ (p : Present). p.state.events) c.self.view_is in
    omega (arith, place, same)
