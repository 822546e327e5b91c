use Rattle.std.proofs.Common.{◌∙◌, List, ℕ, subst, sym, arith}
use Rattle.mds_types.specs.Certificate.{IsCertified}
use Rattle.mds_types.proofs.CertificateLemmas.{best}
use Rattle.planner.proofs.PresentLemmas.{still_certified}
use Rattle.planner.proofs.still.Goals as goal

pub returns-clause-certified : goal.returns-clause-certified
returns-clause-certified c =
    let problem = c.args.problem.now in
    let kept = c.requires.kept in
    subst (λ (rank : List ℕ). IsCertified problem (record {
      part = c.args.now.part.items;
      rank = rank;
      greatest = c.args.found.greatest;
      moved = 0;
      cut = c.args.found.proof;
      dual = c.in_ok-dual.dual;
    }))
    (sym (c.listed-rank.ensures ∙ c.deref.ensures.value))
    (still_certified problem c.args.found.greatest c.args.found.proof c.args.now.part.items c.args.now.rank.items c.in_ok-dual.dual
    kept.are kept.division kept.ranks c.requires.found.proven
    (omega (arith, c.in_ok-dual.ensures.parts, c.len-2.ensures, c.args.now.rank.ok.0))
    (omega (arith, c.in_ok-dual.ensures.ranks, c.from-ranks.ensures, rw c.ranks.ensures.value at c.len.ensures.count))
    (λ p. c.in_ok-dual.ensures.part p) (λ r. c.in_ok-dual.ensures.rank _))

pub returns-clause-best : goal.returns-clause-best
returns-clause-best c = best c.args.problem.now _ c.sound.ensures (returns-clause-certified c)

pub returns-clause-fewer : goal.returns-clause-fewer
returns-clause-fewer c = (c.args.found, c.requires.found, λ rank is. omega arith)
