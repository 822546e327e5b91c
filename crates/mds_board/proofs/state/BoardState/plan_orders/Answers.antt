use Rattle.std.proofs.Common.{◌≡◌, ◌∙◌, ℕ, List, Option, length, ap, refl}
use Rattle.dirtree.specs.Tree.{Entry}
use Rattle.mds_board.specs.State.{holders, targets}
use Rattle.mds_board.specs.Steps.{Present}
use Rattle.mds_board.proofs.state.BoardState.plan_orders.Goals as goal

pub returns-clause-given : goal.returns-clause-given
returns-clause-given g c =
    let tree = ap (λ (p : Present). p.state.directories.entries) c.self.view_is in
    let now : c.deref.result.now ≡ holders c.args.self.now.state = c.deref.ensures.value ∙ c.in_ok-now.ensures in
    let count = c.numbers.ensures.value ∙ ap (λ (es : List (Option Entry)). length es) tree in
    let target = c.deref-2.ensures.value ∙ (c.in_ok-target.ensures ∙ ap (λ (n : ℕ). targets n c.args.dirs.now c.args.plan.now) count) in
    rw (c.in_ok-given.ensures.exact, tree, now, target) refl

pub returns-clause-kept : goal.returns-clause-kept
returns-clause-kept g c = c.in_ok-new.ensures ∙ (c.in_ok-kept.ensures ∙ (c.deref-3.ensures.value ∙ returns-clause-given g c))
