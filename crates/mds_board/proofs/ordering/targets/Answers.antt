use Rattle.std.proofs.Common.{◌≡◌, ℕ, None, arith, drop, get_or, subst}
use Rattle.mds_board.specs.State.{planned_from}
use Rattle.mds_board.proofs.Planned.{all_planned}
use Rattle.mds_board.proofs.ordering.targets.Goals as goal

pub returns : goal.returns
returns c =
    let first : c.loop-row.row ≡ 0 = omega arith in
    all_planned c.loop-row.ranks.items c.args.numbers c.args.dirs.now c.args.plan.now c.loop-row.invariant.size (λ d h.
    subst (λ (row : ℕ). get_or c.loop-row.ranks.items d None ≡ planned_from row (drop row c.args.dirs.now) c.args.plan.now d) first
    (c.loop-row.invariant.ranks d h))
