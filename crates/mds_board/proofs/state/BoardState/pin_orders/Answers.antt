use Rattle.std.proofs.Common.{◌≡◌, ◌∙◌, IfOk, List, Vec, Global, ap, refl, subst}
use Rattle.mds_types.specs.declared.order.Order.{Order}
use Rattle.tree_parts.specs.Orders.{orders}
use Rattle.mds_board.specs.State.{held_by, holders, pin_orders}
use Rattle.mds_board.specs.Steps.{Present}
use Rattle.mds_board.proofs.state.BoardState.pin_orders.Goals as goal

pub returns : goal.returns
returns g c =
    let tree = ap (λ (p : Present). p.state.directories.entries) c.self.view_is in
    let now : c.deref.result.now ≡ holders c.args.self.now.state = c.deref.ensures.value ∙ c.in_ok-now.ensures in
    let held = ap (λ (p : Present). held_by p.state) c.self.view_is in
    let target : c.deref-2.result.now ≡ held_by c.args.self.now.state = c.deref-2.ensures.value ∙ (c.in_ok-target.ensures ∙ held) in
    let all : orders c.self.inside.tree.entries c.deref.result.now c.deref-2.result.now ≡ pin_orders c.args.self.now.state = rw (tree, now, target) refl in
    subst (λ (os : List Order). IfOk c.orders.result (λ (found : Vec Order Global). found.items ≡ os)) all c.orders.ensures.exact
