use Rattle.std.proofs.Common.{◌∙◌, sym, true≢false}
use Rattle.planner.proofs.PresentLemmas.{present_divides, ranks_usable}
use Rattle.planner.proofs.kept.Goals as goal

pub returns-else-branch-clause-best : goal.returns-else-branch-clause-best
returns-else-branch-clause-best c best =
    let problem = c.args.problem.now in
    let part = c.in_ok-now.now.part.items in
    let rank = c.in_ok-now.now.rank.items in
    let are = rw c.rows.ensures.value at c.in_ok-now.ensures.now in
    absurd (true≢false (sym (c.in_ok-is_kept.ensures.1
    (present_divides problem c.args.greatest part rank c.requires are best, ranks_usable problem part rank are best)) ∙ c.if-branch.false))
