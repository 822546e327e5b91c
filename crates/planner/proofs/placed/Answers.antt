use Rattle.planner.proofs.SolveLemmas.{solved}
use Rattle.planner.proofs.placed.Goals as goal

pub returns-clause-certified : goal.returns-clause-certified
returns-clause-certified g c =
    solved c.args.problem.now c.args.best.part.items c.args.best.count c.args.best.greatest c.args.best.proof
    c.in_ok-costs.costs c.in_ok-rank.field-0 c.requires.cut
    c.in_ok-costs.ensures.count c.in_ok-costs.ensures.ranks (rw c.deref.ensures.value at c.in_ok-costs.ensures.cells)
    c.in_ok-rank.ensures.size c.in_ok-rank.ensures.ranks c.in_ok-rank.ensures.moved c.in_ok-rank.ensures.prices
