use Rattle.mds_types.specs.RankSet.{rank_count}
use Rattle.mds_types.proofs.CertificateLemmas.{best}
use Rattle.planner.proofs.SolveLemmas.{found_certified, no_worse}
use Rattle.planner.proofs.from_cut.Goals as goal

pub placed-requires-clause-cut : goal.placed-requires-clause-cut
placed-requires-clause-cut g c κs within = found_certified c.args.problem.now.rows (rank_count c.args.problem.now.ranks) c.args.found c.requires

pub returns-clause-best : goal.returns-clause-best
returns-clause-best g c = best c.args.problem.now _ c.sound.ensures c.in_ok-better.ensures.certified

pub returns-clause-fewer : goal.returns-clause-fewer
returns-clause-fewer g c =
    no_worse c.args.problem.now c.in_ok-plan.plan c.args.found _ c.sound.ensures c.requires c.in_ok-plan.ensures.certified
    c.in_ok-plan.ensures.part c.in_ok-better.ensures.fewer
