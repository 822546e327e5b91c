use Rattle.std.proofs.Common.{sym, ap, arith}
use Rattle.mds_board.specs.Steps.{Present}
use Rattle.mds_board.proofs.Accepted.{has_place}
use Rattle.mds_board.proofs.state.BoardState.set_mask.Goals as goal

pub overflow_add-self : goal.overflow_add-self
overflow_add-self g c =
    let place = has_place _ _ (sym c.in_default.ensures) in
    let same = ap (λ (p : Present). p.state.events) c.self.view_is in
    omega (arith, place, same)
