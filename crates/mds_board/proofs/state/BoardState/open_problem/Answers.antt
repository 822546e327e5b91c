use Rattle.std.proofs.Common.{sym, ap, arith}
use Rattle.mds_board.specs.Steps.{Present}
use Rattle.mds_board.proofs.Accepted.{has_place, may_open}
use Rattle.mds_board.proofs.state.BoardState.open_problem.Goals as goal

pub problems_and_one-requires : goal.problems_and_one-requires
problems_and_one-requires g c = may_open _ (sym c.in_default.ensures)

pub overflow_add-self : goal.overflow_add-self
overflow_add-self g c =
    let place = has_place _ _ (sym c.in_default.ensures) in
    let same = ap (λ (p : Present). p.state.events) c.self.view_is in
    omega (arith, place, same)
