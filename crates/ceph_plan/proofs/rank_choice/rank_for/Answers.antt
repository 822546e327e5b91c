use Rattle.std.proofs.Common.{◌≡◌, ◌<◌, ◌∙◌, ℕ, List, true, ap, arith, inr, sym}
use Rattle.std.proofs.lemmas.Bool.{both_ways}
use Rattle.mds_types.specs.RankSet.{has_rank}
use Rattle.ceph_plan.specs.Balance.{made}
use Rattle.ceph_plan.specs.declared.hours.Hour.{Hour}
use Rattle.ceph_plan.proofs.rank_choice.rank_for.Goals as goal
use Rattle.ceph_plan.proofs.rank_choice.rank_for.Goals.{else-load-limit-via-then-load-limit+else-has, else-load-limit-via-else-load-limit}

pub returns-else-load-limit-clause-sent : goal.returns-else-load-limit-clause-sent
returns-else-load-limit-clause-sent c =
    let ranks : ℕ = c.args.parts.now.ranks in
    let hours : List Hour = c.args.parts.now.hours.now in
    let loads : List ℕ = c.args.loads.now in
    let home : ℕ = c.home_of-home.result in
    let more : has_rank ranks home ≡ true → c.args.limit < made hours loads c.args.part home = elim c.else-load-limit.branch [
      | else-load-limit-via-then-load-limit+else-has w ↦ λ has. absurd (both_ways (has_rank ranks home) (sym w.has.ensures ∙ w.if-has.false) has)
      | else-load-limit-via-else-load-limit w ↦ λ has.
          omega (arith, w.if-load-limit.false, c.load_with-load.ensures, ap (made hours loads c.args.part) (c.from.ensures ∙ c.number.ensures.value))
    ] in
    record { home = home; is = c.home_of-home.ensures; goes = inr (more, λ r has. c.best_rank.ensures.least r has) }
