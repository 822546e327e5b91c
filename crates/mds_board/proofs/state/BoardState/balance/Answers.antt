use Rattle.std.proofs.Common.{◌∙◌, sym, ap, subst, refl}
use Rattle.mds_types.specs.Certificate.{IsBest, IsCertified}
use Rattle.mds_types.specs.Problem.{ProblemData}
use Rattle.mds_board.specs.State.{Opened, happens}
use Rattle.mds_board.proofs.Accepted.{may_open, balance_opens, balance_adopts}
use Rattle.mds_board.proofs.state.BoardState.balance.Goals as goal

pub problems-requires : goal.problems-requires
problems-requires g c = may_open c.args.self.now.state (balance_opens c.args.self.now.state (sym c.in_default.ensures))

pub returns-clause-ok : goal.returns-clause-ok
unfolding happens
returns-clause-ok g c =
    let kept = c.in-Ok.ensures.kept in
    let asked = c.problem.ensures ∙ kept in
    let same = c.opening.view_is ∙ c.in-Ok.ensures.opening in
    let problem = ap (λ (o : Opened). o.problem) same in
    let dirs = ap (λ (o : Opened). o.dirs) same in (
      balance_opens c.args.self.now.state (sym c.in_default.ensures),
      kept,
      balance_adopts c.args.self.now.state c.in-Ok-solved.plan (sym c.in_default.ensures),
      subst (λ (q : ProblemData). IsBest q c.in-Ok-solved.plan) asked c.in-Ok-solved.ensures.best,
      c.in-Ok-plan_orders.ensures.kept ∙ rw (c.deref.ensures.value, c.plan-2.ensures, dirs) refl,
      rw (problem, dirs, ← c.self.view_is) refl,
      subst (λ (q : ProblemData). IsCertified q c.in-Ok-solved.plan) asked c.in-Ok-solved.ensures.certified,
      subst (λ (q : ProblemData). g.S.Solver.also q c.in-Ok-solved.plan) asked c.in-Ok-solved.ensures.also,
    )
