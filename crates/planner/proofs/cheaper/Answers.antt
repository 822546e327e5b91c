use Rattle.std.proofs.Common.{ap}
use Rattle.mds_types.specs.declared.plan.Plan.{Plan}
use Rattle.planner.proofs.SolveLemmas.{recertified}
use Rattle.planner.proofs.cheaper.Goals as goal

pub returns-clause-certified : goal.returns-clause-certified
returns-clause-certified g c =
    rw (ap (λ (p : Plan). p.greatest) c.plan.view_is, ap (λ (p : Plan). p.cut) c.plan.view_is)
    (recertified c.args.problem.now c.args.plan c.args.other.part.items c.args.other.count
    c.in_ok-costs.costs c.in_ok-rank.field-0 c.requires.certified c.requires.best
    c.in_ok-costs.ensures.count c.in_ok-costs.ensures.ranks (rw c.deref.ensures.value at c.in_ok-costs.ensures.cells)
    c.in_ok-rank.ensures.size c.in_ok-rank.ensures.ranks c.in_ok-rank.ensures.moved c.in_ok-rank.ensures.prices)
