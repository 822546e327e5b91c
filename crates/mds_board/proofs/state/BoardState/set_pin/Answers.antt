use Rattle.std.proofs.Common.{sym, ap, arith, subst, ◌≡◌, None, ◌∙◌, to_z, of_z, w32}
use Rattle.mds_board.specs.Steps.{Present}
use Rattle.dir_pins.specs.Pins.{pin_refusal}
use Rattle.mds_board.proofs.Accepted.{has_place, may_pin}
use Rattle.mds_board.proofs.state.BoardState.set_pin.Goals as goal

pub unreachable-requires : goal.unreachable-requires
unreachable-requires g c =
    let may = may_pin _ _ _ (sym c.in_default.ensures) in
    let here = subst (λ (p : Present). pin_refusal p.state.pins.active p.state.directories.entries c.args.dir
    (to_z w32 (of_z w32 c.args.pin)) ≡ None) (sym c.self.view_is) may in
    let bad = sym here ∙ c.in_default-set.ensures.refused in cc

pub overflow_add-self : goal.overflow_add-self
overflow_add-self g c =
    let place = has_place _ _ (sym c.in_default.ensures) in
    let same = ap (λ (p : Present). p.state.events) c.self.view_is in
    omega (arith, place, same)
