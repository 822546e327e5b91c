use Rattle.std.proofs.Common.{◌∙◌, ◌↔◌, sym, length, IsTrue}
use Rattle.std.proofs.lemmas.Bool.{false≢true}
use Rattle.mds_types.specs.declared.plan.Plan.{Plan}
use Rattle.mds_types.specs.Certificate.{IsCutCertified, AreRanks, plan_rank, plan_label}
use Rattle.mds_types.specs.Problem.{IsProblem}
use Rattle.mds_types.specs.RankSet.{rank_count}
use Rattle.mds_types.proofs.CertificateLemmas.{best, IsCutCertified-of}
use Rattle.plan_checker.specs.Costs.{AreCosts}
use Rattle.plan_checker.proofs.PlanLemmas.{certified_by_placing}
use Rattle.plan_checker.proofs.judge.check.Goals as goal

pub returns-then-not-branch-clause-exact : goal.returns-then-not-branch-clause-exact
returns-then-not-branch-clause-exact c =
    let problem = c.args.problem.now in
    let plan : Plan = record {
      part = c.plan.inside.part.items;
      rank = c.plan.inside.rank.items;
      greatest = c.plan.inside.greatest;
      moved = c.plan.inside.moved;
      cut = c.plan.inside.cut;
      dual = c.plan.inside.dual;
    } in
    let division : IsTrue c.in_ok-check_cut.field-0
    ↔ IsCutCertified problem.rows (rank_count problem.ranks) plan.part (length plan.rank) plan.greatest plan.cut =
    rw (c.as_slice-part.ensures.value, c.as_slice-rank.ensures.value) at c.in_ok-check_cut.ensures.exact in
    rw (← c.plan.view_is)
    (λ no. absurd (false≢true no), λ is. sym c.if-not-branch.true ∙ division.1 (IsCutCertified-of problem plan is))

pub returns-clause-exact : goal.returns-clause-exact
returns-clause-exact c =
    let problem = c.args.problem.now in
    let plan : Plan = record {
      part = c.plan.inside.part.items;
      rank = c.plan.inside.rank.items;
      greatest = c.plan.inside.greatest;
      moved = c.plan.inside.moved;
      cut = c.plan.inside.cut;
      dual = c.plan.inside.dual;
    } in
    let cells = c.in_ok-cells.cells.items in
    let are : AreRanks c.args.problem.now.ranks (length plan.rank) (plan_rank plan) =
    rw (c.ranks-ranks.ensures.value, c.as_slice-rank.ensures.value) at (c.are_ranks.ensures.0 c.if-not-are_ranks.false) in
    let division : IsCutCertified c.args.problem.now.rows (rank_count c.args.problem.now.ranks) plan.part
    (length plan.rank) plan.greatest plan.cut =
    rw (c.as_slice-part.ensures.value, c.as_slice-rank.ensures.value) at (c.in_ok-check_cut.ensures.exact.0 c.if-not-branch.false) in
    let costs : AreCosts c.args.problem.now.rows (plan_label plan) (length plan.rank)
    c.args.problem.now.ranks c.in_ok-cells.cells.items =
    rw (c.rows.ensures.value, c.ranks-ranks.ensures.value, c.as_slice-part.ensures.value, c.as_slice-rank.ensures.value) at
    c.in_ok-cells.ensures in
    let holds = rw (c.ranks-ranks.ensures.value, c.as_slice-rank.ensures.value, c.deref.ensures.value) at c.placing_holds.ensures in
    rw (← c.plan.view_is) (certified_by_placing problem plan cells c.placing_holds.result are division costs holds)

pub returns-clause-best : goal.returns-clause-best
returns-clause-best c =
    let problem = c.args.problem.now in
    let plan : Plan = record {
      part = c.plan.inside.part.items;
      rank = c.plan.inside.rank.items;
      greatest = c.plan.inside.greatest;
      moved = c.plan.inside.moved;
      cut = c.plan.inside.cut;
      dual = c.plan.inside.dual;
    } in
    let cells = c.in_ok-cells.cells.items in
    let are : AreRanks c.args.problem.now.ranks (length plan.rank) (plan_rank plan) =
    rw (c.ranks-ranks.ensures.value, c.as_slice-rank.ensures.value) at (c.are_ranks.ensures.0 c.if-not-are_ranks.false) in
    let division : IsCutCertified c.args.problem.now.rows (rank_count c.args.problem.now.ranks) plan.part
    (length plan.rank) plan.greatest plan.cut =
    rw (c.as_slice-part.ensures.value, c.as_slice-rank.ensures.value) at (c.in_ok-check_cut.ensures.exact.0 c.if-not-branch.false) in
    let costs : AreCosts c.args.problem.now.rows (plan_label plan) (length plan.rank)
    c.args.problem.now.ranks c.in_ok-cells.cells.items =
    rw (c.rows.ensures.value, c.ranks-ranks.ensures.value, c.as_slice-part.ensures.value, c.as_slice-rank.ensures.value) at
    c.in_ok-cells.ensures in
    let holds = rw (c.ranks-ranks.ensures.value, c.as_slice-rank.ensures.value, c.deref.ensures.value) at c.placing_holds.ensures in
    let valid : IsProblem c.args.problem.now = record {
      forest = rw c.rows.ensures.value at c.rows.ensures.forest;
      ranked = rw c.ranks-ranks.ensures.value at c.ranks-ranks.ensures.ranked;
    } in
    rw (← c.plan.view_is) (λ says. best problem plan valid
    ((certified_by_placing problem plan cells c.placing_holds.result are division costs holds).0 says))
