use Rattle.std.proofs.Common.{◌≡◌, ℕ, IfOk, List, subst}
use Rattle.mds_board.specs.State.{plan_orders}
use Rattle.mds_board.proofs.state.BoardState.orders_of.Goals as goal

pub returns-clause-given : goal.returns-clause-given
returns-clause-given g c =
    subst (λ (dirs : List ℕ). IfOk c.plan_orders.result (λ os. os.0.items ≡ plan_orders c.args.self.now.state dirs c.args.plan.now))
    c.open_rows.ensures c.plan_orders.ensures.given

pub returns-clause-kept : goal.returns-clause-kept
returns-clause-kept g c = subst
    (λ (dirs : List ℕ). IfOk c.plan_orders.result (λ os. os.1 ≡ plan_orders c.args.self.now.state dirs c.args.plan.now)) c.open_rows.ensures
    c.plan_orders.ensures.kept
